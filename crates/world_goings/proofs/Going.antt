-- What is done for a job without an entry leaves a world that comes of the same opening.
use Rattle.std.proofs.Common.{◌≡◌, true, List}
use Rattle.std.specs.Prelude.{is_some}
use Rattle.block_jobs.specs.Work.{JobWork}
use Rattle.blk_nodes.specs.Contents.{disk_of}
use Rattle.blk_nodes.specs.Joined.{IsJoined}
use Rattle.blk_nodes.specs.Nodes.{AreTold, Nodes}
use Rattle.flat_machine.specs.Agreement.{Agrees}
use Rattle.flat_machine.specs.Final.{bytes_named}
use Rattle.flat_machine.specs.Imaging.{ShowsImages}
use Rattle.flat_machine.specs.Machine.{replay}
use Rattle.flat_machine.specs.Opening.{start}
use Rattle.flat_machine.specs.State.{State}
use Rattle.flat_machine.specs.declared.opening.Opening.{Opening}
use Rattle.job_progress.specs.Belonging.{AreWorksOf}
use Rattle.job_progress.specs.Going.{AreJobsAhead}
use Rattle.world_parts.specs.Coherent.{AreJobsKept, IsCoherent}
use Rattle.world_parts.specs.Comes.{Comes, ShowsState}
use Rattle.world_parts.specs.Face.{WorldSeen, contents_of, counts_now, first_counts}
use Rattle.world_parts.specs.Keeping.{AreRises, ShowsJobs, all_faults}
use Rattle.world_parts.proofs.CountLemmas.{out-same}
use Rattle.world_parts.proofs.NodesAfter.{AreNodesAfter, alike_after}
use Rattle.world_parts.proofs.Rises.{licensed-kept}
use Rattle.world_parts.proofs.SoundImages.{images-sound}

-- the parts still belong together
pub coherent_then : (w : WorldSeen) (nodes : Nodes) → AreNodesAfter w.nodes nodes → IsCoherent w.table w.nodes w.opened w.progress → IsCoherent w.table nodes w.opened w.progress
coherent_then w nodes after was = record {
  table = was.table;
  drives = was.drives;
  disks = was.disks;
  alike = alike_after w.table w.nodes nodes after was.alike;
  asks = was.asks;
  writable = was.writable;
  within = was.within;
  allowed = was.allowed;
  count = was.count;
  out = out-same w.table w.nodes nodes w.opened after.devices was.out;
}

pub kept_then : (w : WorldSeen) (works : List JobWork) → AreWorksOf w.table works → AreJobsKept w.table w.works w.progress.aside → AreJobsKept w.table works w.progress.aside
kept_then w works belong was = record {
  stand = was.stand;
  run = was.run;
  copies = was.copies;
  rows = was.rows;
  once = was.once;
  uses = was.uses;
  belong = belong;
  room = was.room;
  lone = was.lone;
}

module _ (o : Opening) (w : WorldSeen) (nodes : Nodes) (works : List JobWork) where
  abbrev v : WorldSeen
  v = record w { nodes = nodes; works = works }

  abbrev s : State
  s = replay (start o) w.progress.log.events

  -- what it leaves, where the store tells its files
  pub record LeavesShown : Type 0 where
    pub tell : AreTold nodes.devices
    pub agrees : Agrees (bytes_named o.files) s (contents_of v)
    pub images : ShowsImages s (contents_of v)
    pub ahead : AreJobsAhead (start o) w.progress.log.events s (disk_of nodes) works

  pub record GoesOn : Type 0 where
    pub after : AreNodesAfter w.nodes nodes
    pub joined : IsJoined nodes
    pub belong : AreWorksOf w.table works
    pub kept : AreRises (first_counts w) (counts_now v) (all_faults w.progress.log.events works)
    pub shown : is_some w.files ≡ true → ShowsState o s w → ShowsJobs o w.progress.log.events s w → LeavesShown

  module _ (comes : Comes o w) (on : GoesOn) where
    shown_then : is_some w.files ≡ true → LeavesShown
    shown_then told = on.shown told (comes.shows told) (comes.going told)

    shows_then : is_some w.files ≡ true → ShowsState o s v
    shows_then told =
        let was = comes.shows told in
        let left = shown_then told in
        record {
          stands = was.stands;
          dirty = was.dirty;
          table = record { room_is = was.table.room_is; table_is = was.table.table_is; rest = was.table.rest };
          guests = record { guests_are = was.guests.guests_are; ended_are = was.guests.ended_are };
          contents = left.agrees;
          images = left.images;
        }

    pub goes_on : Comes o v
    goes_on = record {
      history = record {
        guests_are = comes.history.guests_are;
        licensed = licensed-kept (first_counts w) (counts_now v) w.progress.log.events works on.kept;
        history = comes.history.history;
      };
      counted = comes.counted;
      requests = comes.requests;
      table = comes.table;
      granules = comes.granules;
      coherent = coherent_then w nodes on.after comes.coherent;
      shows = shows_then;
      sound = λ told. images-sound v on.joined (coherent_then w nodes on.after comes.coherent) (shown_then told).tell;
      jobs = kept_then w works on.belong comes.jobs;
      kept = on.kept;
      going = λ told. let was = comes.going told in record { begun = was.begun; files = was.files; ahead = (shown_then told).ahead; unsure = was.unsure; whole = was.whole };
      names = comes.names;
    }
