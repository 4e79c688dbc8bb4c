-- What a buffer holds of a block that was read for a job.
use Rattle.std.proofs.Common.{◌≡◌, ℕ, ◌*◌, ◌≤◌, true, List, length, take, refl, sym, ◌∙◌, ap, subst, arith, inl, inr, Option, Some, None}
use Rattle.std.specs.Prelude.{Contains, IfSome, Result, Ok, Err, is_some}
use Rattle.std.proofs.lemmas.List.{get_or-take, length-take-le, take_all}
use Rattle.blk_base.specs.Content.{bytes_at}
use Rattle.blk_base.specs.Pieces.{block_size}
use Rattle.blk_base.specs.declared.fault.Fault.{Fault}
use Rattle.blk_base.proofs.Contents.{bytes_at-by_place, get_or-bytes_at, length-bytes_at}
use Rattle.blk_copy.specs.declared.transfers.Transfer.{Transfer}
use Rattle.blk_history.specs.declared.event.Event.{Event}
use Rattle.blk_nodes.specs.Contents.{disk_of}
use Rattle.blk_nodes.specs.Nodes.{AreTold, Nodes}
use Rattle.block_jobs.specs.Work.{JobWork, after_take}
use Rattle.qmp_codec.specs.declared.event.JobKind.{JobKind}
use Rattle.qmp_codec.specs.declared.event.JobKind.TheVariants.{Stream, Commit, Mirror, Backup}
use Rattle.job_copies.specs.Taking.{TakesBlock as Takes1}
use Rattle.job_progress.specs.Going.{taken_bytes}
use Rattle.job_works.specs.Works.{work_of}
use Rattle.job_works.proofs.Changed.{job_found}
use Rattle.node_copies.specs.Sectors.{block_of}
use Rattle.qmp_rules.specs.Chains.{disk_node}
use Rattle.qmp_rules.specs.Table.{RunTable, job_at, node_by_id}
use Rattle.qmp_rules.specs.declared.rows.JobRecord.{JobRecord}
use Rattle.flat_machine.specs.Machine.{replay}
use Rattle.flat_machine.specs.Opening.{start}
use Rattle.flat_machine.specs.State.{State, bytes_at_node, bytes_in}
use Rattle.flat_machine.specs.declared.opening.Opening.{Opening}
use Rattle.world_goings.proofs.Ahead.{job_there}
use Rattle.world_goings.proofs.Failed.{found_then}
use Rattle.world_goings.proofs.JobNodes.{source_disk, source_itself, source_plain}
use Rattle.world_parts.specs.Coherent.{IsWholeWorld}
use Rattle.world_parts.specs.Comes.{Comes, ShowsState}
use Rattle.world_parts.specs.Face.{WorldSeen}
use Rattle.world_parts.specs.Jobs.{TakesBlock}
use Rattle.qblk_run.specs.Slots.{HasTaken, HoldsTaken, front_of, given_of}

-- ---- bytes

shorter : (b : List ℕ) (at len : ℕ) → len ≤ 65536 → take len (bytes_at b at block_size) ≡ bytes_at b at len
shorter b at len few =
    bytes_at-by_place b (take len (bytes_at b at block_size)) at len
    (length-take-le len (bytes_at b at block_size) (subst (λ (n : ℕ). len ≤ n) (sym (length-bytes_at b at block_size)) few))
    (λ k less.
    get_or-take len (bytes_at b at block_size) k 0 less
    ∙ get_or-bytes_at b at block_size k (let most : len ≤ 65536 = few in omega arith))

few_bytes : (size block : ℕ) → (block_of size block).len ≤ 65536
few_bytes size block = omega arith

size_taken : (kind : JobKind) (t : Transfer) (work : JobWork) → (after_take kind t work).size ≡ work.size
size_taken Mirror t work = refl
size_taken Stream t work = refl
size_taken Commit t work = refl
size_taken Backup t work = refl

-- ---- a source

source_reads : (o : Opening) (v : WorldSeen) (whole : IsWholeWorld v) (row : JobRecord) → Contains v.table.jobs row
    → ShowsState o (replay (start o) v.progress.log.events) v
    → disk_of v.nodes row.source ≡ bytes_at_node (replay (start o) v.progress.log.events) row.source
source_reads o v whole row here shows =
    let s : State = replay (start o) v.progress.log.events in
    let stands = whole.coherent.table.stands in
    let p = source_plain v.table v.works v.progress.aside whole.jobs stands row here in
    shows.contents.disks row.source p.row (ap (λ (u : RunTable). node_by_id u row.source) shows.table.table_is ∙ p.there)
    (source_disk v.table v.works v.progress.aside whole.jobs stands row here)
    ∙ ap (bytes_in s.disks)
    (sym (ap (λ (u : RunTable). disk_node u row.source) shows.table.table_is ∙ source_itself v.table v.works v.progress.aside whole.jobs stands row here))

-- ---- a block that was read

module _ (w v : WorldSeen) (whole : IsWholeWorld v) (row : JobRecord) (buffer : List ℕ) (t : Transfer) (did : TakesBlock w v row buffer (Ok (Some t))) where
  abbrev was : JobWork
  was = did.takes.was

  abbrev now : JobWork
  now = did.takes.now

  takes : Takes1 row.kind w.nodes v.nodes was now row.source (length w.progress.log.events) buffer t
  takes = did.takes.done.takes

  events : v.progress.log.events ≡ w.progress.log.events
  events = ap (λ (x : WorldSeen). x.progress.log.events) did.copies.kept

  own : t.job ≡ row.number
  own = ap (λ (x : Transfer). x.job) takes.is ∙ job_found w.works row.number was did.takes.there

  there : job_at v.table row.number ≡ Some row
  there = ap (λ (x : WorldSeen). job_at x.table row.number) did.copies.kept ∙ did.copies.there

  size : now.size ≡ was.size
  size = ap (λ (x : JobWork). x.size) takes.work ∙ size_taken row.kind t was

  module _ (o : Opening) (comes : Comes o v) (told : is_some v.files ≡ true) where
    abbrev h : List Event
    h = v.progress.log.events

    position : t.position ≡ length h
    position = ap (λ (x : Transfer). x.position) takes.is ∙ ap (λ (es : List Event). length es) (sym events)

    disk : disk_of w.nodes row.source ≡ bytes_at_node (replay (start o) h) row.source
    disk = ap (λ n. disk_of n row.source) (sym takes.same) ∙ source_reads o v whole row (job_there v.table row there) (comes.shows told)

    past : take t.position h ≡ h
    past = take_all t.position h (let same : t.position ≡ length h = position in omega arith)

    whole_bytes : taken_bytes (start o) h row t ≡ bytes_at (bytes_at_node (replay (start o) h) row.source) (t.cluster * block_size) block_size
    whole_bytes = ap (λ (es : List Event). bytes_at (bytes_at_node (replay (start o) es) row.source) (t.cluster * block_size) block_size) past

    read : (work : JobWork) → work_of v.works row.number ≡ Some work → front_of work t buffer ≡ take (block_of work.size t.cluster).len (taken_bytes (start o) h row t)
    read work at =
        let both : Some work ≡ Some now = sym at ∙ found_then row.number _ w.works v.works did.takes in
        let same : work ≡ now = cc both in
        let len : (block_of work.size t.cluster).len ≡ (block_of was.size t.cluster).len
        = ap (λ (n : ℕ). (block_of n t.cluster).len) (ap (λ (x : JobWork). x.size) same ∙ size) in
        let n : ℕ = (block_of was.size t.cluster).len in
        ap (λ (k : ℕ). take k buffer) len
        ∙ takes.bytes (subst (λ (n : Nodes). AreTold n.devices) takes.same (whole.tell told))
        ∙ ap (λ (b : List ℕ). bytes_at b (t.cluster * 65536) n) disk
        ∙ sym (shorter (bytes_at_node (replay (start o) h) row.source) (t.cluster * block_size) n (few_bytes was.size t.cluster))
        ∙ ap (take n) (sym whole_bytes)
        ∙ ap (λ (k : ℕ). take k (taken_bytes (start o) h row t)) (sym len)

  pub holds : HoldsTaken v t buffer
  holds o other work comes at copies told found there_is flies =
      let same : other ≡ row = (let both : Some other ≡ Some row = sym at ∙ ap (job_at v.table) own ∙ there in cc both) in
      let mine : work_of v.works row.number ≡ Some found = ap (λ (r : JobRecord). work_of v.works r.number) (sym same) ∙ there_is in
      let both : Some work ≡ Some found = sym copies ∙ ap (work_of v.works) own ∙ mine in
      let one : work ≡ found = cc both in
      ap (λ (x : JobWork). front_of x t buffer) one
      ∙ read o comes told found mine
      ∙ ap (λ (r : JobRecord). take (block_of found.size t.cluster).len (taken_bytes (start o) v.progress.log.events r t)) (sym same)

-- what a take gives
pub taken_holds : (w v : WorldSeen) → IsWholeWorld v → (slot : ℕ) (buffer : List ℕ) (result : Option Transfer) → HasTaken w v slot buffer result
    → IfSome result (λ t. HoldsTaken v t buffer)
taken_holds w v whole slot buffer None took = tt
taken_holds w v whole slot buffer (Some t) (inl none) = absurd (let bad : Some t ≡ None = none.2 in cc bad)
taken_holds w v whole slot buffer (Some t) (inr takes) = by_answer takes.answer takes.given takes.takes
  where
    by_answer : (answer : Result (Option Transfer) Fault) → Some t ≡ given_of answer → TakesBlock w v takes.row buffer answer → HoldsTaken v t buffer
    by_answer (Ok (Some u)) is did = holds w v whole takes.row buffer t (subst (λ (x : Transfer). TakesBlock w v takes.row buffer (Ok (Some x))) (sym (let same : t ≡ u = cc is in same)) did)
    by_answer (Ok None) is did = absurd (cc is)
    by_answer (Err fault) is did = absurd (cc is)
