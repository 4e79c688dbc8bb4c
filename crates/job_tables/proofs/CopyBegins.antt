-- What backups and mirrors are accepted with makes jobs begin.
use Rattle.std.proofs.Common.{◌≡◌, ◌≢◌, ◌⊎◌, ℕ, zero, suc, ◌<◌, ◌≤◌, List, [], ◌∷◌, map, length, refl, sym, ◌∙◌, ap, subst, inl, inr, arith, Bool, true, false, cond, Option, Some, None}
use Rattle.std.specs.Prelude.{◌==◌, ◌&&◌, ◌||◌, not, bytes_eq}
use Rattle.std.specs.List.{Contains}
use Rattle.std.proofs.lemmas.Bool.{false≢true, eqb-true, eq-eqb, leb-false, not-false}
use Rattle.std.proofs.lemmas.List.{length-map}
use Rattle.blk_graph.specs.declared.edge.Edge.{Edge}
use Rattle.blk_graph.specs.declared.edge.Parent.TheVariants.{Node}
use Rattle.blk_graph.specs.Edges.{same_parent, IsListed}
use Rattle.blk_graph.specs.Paths.{IsPath, Reaches}
use Rattle.blk_graph.proofs.InverseLemmas.{same_parent-refl}
use Rattle.blk_graph.proofs.Members.{Contains-nil, Contains-here, Contains-there, Contains-cases, map-Contains, find-Some, list_any-there}
use Rattle.blk_graph.proofs.RefreshLemmas.{no_long_path}
use Rattle.qmp_codec.specs.declared.event.JobKind.{JobKind}
use Rattle.qmp_codec.specs.declared.event.JobKind.TheVariants as job_kind
use Rattle.qmp_codec.specs.declared.jobs.Backup.{Backup}
use Rattle.qmp_codec.specs.declared.jobs.Mirror.{Mirror}
use Rattle.qmp_asks.specs.declared.ask.Ask.TheVariants as ask
use Rattle.qmp_asks.specs.declared.ask.Drivers.TheVariants as drivers
use Rattle.qmp_asks.specs.declared.ask.JobNodes.TheVariants.{Copy}
use Rattle.qmp_asks.specs.JobAsks.{is_other, backup_rest, mirror_rest}
use Rattle.qmp_rules.specs.declared.refusal.Refusal.TheVariants as refusal
use Rattle.qmp_rules.specs.declared.rows.NodeRecord.{NodeRecord}
use Rattle.qmp_rules.specs.declared.rows.JobRecord.{JobRecord}
use Rattle.qmp_rules.specs.declared.told.Told.{Told}
use Rattle.qmp_rules.specs.Asks.{holds, id_or, is_mirror, mirrored, first_reached, first_clash}
use Rattle.qmp_rules.specs.Chains.{filter_role, is_settled, leads, reaches}
use Rattle.qmp_rules.specs.Edits.{free_id, next_slot, backup_job, mirror_job}
use Rattle.qmp_rules.specs.Refusals.{refused}
use Rattle.qmp_rules.specs.Table.{RunTable, node_named, node_by_id, id_named, name_at}
use Rattle.flat_machine.specs.Jobs.{target_written}
use Rattle.flat_machine.specs.Suiting.{IsPlainNode, IsAlone}
use Rattle.flat_machine.specs.Wiring.{TableStands}
use Rattle.flat_machine.proofs.Accepted.{free_fresh, no_filter, no_edge}
use Rattle.flat_machine.proofs.Asked.{none-both, not-refused, NoneHolds, found-named, takes-driver, room-left, lone-node, settled-node}
use Rattle.flat_machine.proofs.Finds.{bytes_eq-same, same-bytes_eq}
use Rattle.flat_machine.proofs.Fresh.{lowest_free-free}
use Rattle.flat_machine.proofs.Rows.{same_row}
use Rattle.flat_machine.proofs.TableSuited.{named-row, own-settled, free-node, writable-node}
use Rattle.job_tables.specs.Accepted.{Begins}
use Rattle.job_tables.specs.Jobs.{JobsStand}
use Rattle.job_tables.specs.Rows.{nodes_of_job}
use Rattle.job_tables.specs.Running.{JobsRun, UnsettlesNoSource, RunBegins}
use Rattle.job_tables.specs.Copiers.{CopyCanGo, CopierBegins}
use Rattle.job_tables.specs.Starts.{CopyBegins, MirrorBegins, BeginsByKind, JobBegins}
use Rattle.job_tables.proofs.Clashes.{held_free}
use Rattle.job_tables.proofs.Copiers.{copied_target}
use Rattle.job_tables.proofs.Kept.{mirror_row}
use Rattle.job_tables.proofs.RowEdges.{in_left, in_either}
use Rattle.job_tables.proofs.Runs.{source_has}
use Rattle.job_tables.proofs.Slots.{lowest_below, free_apart}

-- ---- a slot and a number

pub room_for_job : (t : RunTable) (told : Told) → holds t told ask.RoomForJob ≡ None → length t.jobs < 16
unfolding holds
room_for_job t told h = leb-false 16 (length t.jobs) (not-refused _ _ h)

abbrev slots : RunTable → List ℕ
slots t = map (λ (job : JobRecord). job.slot) t.jobs

slots_few : (t : RunTable) → length t.jobs < 16 → length (slots t) < 16
slots_few t few = let same : length (slots t) ≡ length t.jobs = simp length-map in omega arith

pub slot_small : (t : RunTable) → length t.jobs < 16 → next_slot t < 16
slot_small t few = lowest_below 16 (slots t) (slots_few t few)

pub slot_own : (t : RunTable) → length t.jobs < 16 → (other : JobRecord) → Contains t.jobs other → other.slot ≢ next_slot t
slot_own t few other at same =
    free_apart (slots t) (next_slot t) other.slot (lowest_free-free (slots t) (far (slots_few t few))) (map-Contains (λ (job : JobRecord). job.slot) t.jobs other at) same
  where
    far : length (slots t) < 16 → length (slots t) < 64
    far h = omega arith

unlike : (n m : ℕ) → n < m → n ≢ m
unlike n m h same = omega (arith, h, same)

pub number_own : (t : RunTable) → JobsRun t → (other : JobRecord) → Contains t.jobs other → other.number ≢ t.started
number_own t r other at = unlike other.number t.started (r.numbers other at)

-- ---- paths of so many steps are found

path_leads : (edges : List Edge) (more : ℕ) (a z : ℕ) (e : Edge) (path : List Edge) → length (e ∷ path) ≤ more → IsPath edges a (e ∷ path) z
    → leads more edges a z ≡ true
path_leads edges zero a z e path few is = absurd (omega (arith, few))
path_leads edges (suc more) a z e path few is =
    list_any-there (λ (edge : Edge). same_parent edge.parent (Node a) && (edge.child == z || leads more edges edge.child z)) edges e is.0
    (by_both (same_parent e.parent (Node a)) (e.child == z || leads more edges e.child z) from (by_rest path few is.2 (path_leads edges more e.child z)))
  where
    by_both : (p q : Bool) → p ≡ true → q ≡ true → (p && q) ≡ true
    by_both p q h k = rw (h, k) refl

    from : same_parent e.parent (Node a) ≡ true
    from = ap (λ p. same_parent p (Node a)) is.1 ∙ same_parent-refl (Node a)

    by_or : (p q : Bool) → q ≡ true → (p || q) ≡ true
    by_or true q h = refl
    by_or false q h = h

    by_rest : (path : List Edge) → length (e ∷ path) ≤ suc more → IsPath edges e.child path z
        → ((f : Edge) (rest : List Edge) → length (f ∷ rest) ≤ more → IsPath edges e.child (f ∷ rest) z → leads more edges e.child z ≡ true)
        → (e.child == z || leads more edges e.child z) ≡ true
    by_rest [] few is further = rw (eq-eqb e.child z is) refl
    by_rest (f ∷ rest) few is further = by_or (e.child == z) (leads more edges e.child z) (further f rest (omega (arith, few)) is)

pub unreached : (t : RunTable) → TableStands t → IsListed t.edges → (a z : ℕ) → reaches t a z ≡ false → Reaches t.edges a z → ⊥
unfolding reaches
unreached t h listed a z none way =
    let short = no_long_path t.edges a z (way.first ∷ way.rest) listed h.acyclic way.path in
    false≢true (sym none ∙ path_leads t.edges 64 a z way.first way.rest (more (length (way.first ∷ way.rest)) short) way.path)
  where
    more : (n : ℕ) → n ≤ 63 → n ≤ 64
    more n h = omega arith

abbrev mirrors_by : JobKind → Bool
mirrors_by k = elim k as (λ _. Bool) [ job_kind.Mirror ↦ true | _ ↦ false ]

-- ---- what both kinds ask

pub record CopyAsked (t : RunTable) (told : Told) (device target : List ℕ) : Type 0 where
  pub other : is_other target device ≡ true
  pub device_found : holds t told (ask.Found (Some device)) ≡ None
  pub target_found : holds t told (ask.Found (Some target)) ≡ None
  pub nodes : holds t told (ask.RoomForNodes 1) ≡ None
  pub jobs : holds t told ask.RoomForJob ≡ None
  pub device_drives : holds t told (ask.Drives (Some device) drivers.FileRawOrQcow2) ≡ None
  pub target_drives : holds t told (ask.Drives (Some target) drivers.FileRawOrQcow2) ≡ None
  pub settled : holds t told (ask.Settled (Some device)) ≡ None
  pub free : holds t told (ask.Free (Copy device target)) ≡ None
  pub writable : holds t told (ask.Writable target) ≡ None
  pub sizes : holds t told (ask.EqualSizes (Copy device target)) ≡ None
  pub lone : holds t told (ask.Lone target) ≡ None
  pub clear : holds t told (ask.Clear (Copy device target)) ≡ None

pub backup_asked : (t : RunTable) (told : Told) (c : Backup (List ℕ)) → is_other c.target c.device ≡ true → NoneHolds t told (backup_rest c)
    → CopyAsked t told c.device c.target
backup_asked t told c other asks = record {
  other = other;
  device_found = asks.0;
  target_found = asks.1.0;
  nodes = asks.1.1.1.1.0;
  jobs = asks.1.1.1.1.1.0;
  device_drives = asks.1.1.1.1.1.1.0;
  target_drives = asks.1.1.1.1.1.1.1.0;
  settled = asks.1.1.1.1.1.1.1.1.0;
  free = asks.1.1.1.1.1.1.1.1.1.0;
  writable = asks.1.1.1.1.1.1.1.1.1.1.1.0;
  sizes = asks.1.1.1.1.1.1.1.1.1.1.1.1.0;
  lone = asks.1.1.1.1.1.1.1.1.1.1.1.1.1.0;
  clear = asks.1.1.1.1.1.1.1.1.1.1.1.1.1.1.0;
}

pub mirror_asked : (t : RunTable) (told : Told) (c : Mirror (List ℕ)) → is_other c.target c.device ≡ true → NoneHolds t told (mirror_rest c)
    → CopyAsked t told c.device c.target
mirror_asked t told c other asks = record {
  other = other;
  device_found = asks.0;
  target_found = asks.1.0;
  nodes = asks.1.1.1.0;
  jobs = asks.1.1.1.1.0;
  device_drives = asks.1.1.1.1.1.0;
  target_drives = asks.1.1.1.1.1.1.0;
  settled = asks.1.1.1.1.1.1.1.0;
  free = asks.1.1.1.1.1.1.1.1.0;
  writable = asks.1.1.1.1.1.1.1.1.1.0;
  sizes = asks.1.1.1.1.1.1.1.1.1.1.0;
  lone = asks.1.1.1.1.1.1.1.1.1.1.1.0;
  clear = asks.1.1.1.1.1.1.1.1.1.1.1.1.0;
}

-- ---- its nodes

module _ (t : RunTable) (told : Told) (h : TableStands t) (j : JobsStand t) (r : JobsRun t) (device target : List ℕ) (a : CopyAsked t told device target) where
  abbrev source_row : NodeRecord
  source_row = (found-named t told device a.device_found).0

  source_named : node_named t device ≡ Some source_row
  source_named = (found-named t told device a.device_found).1

  source_there : Contains t.nodes source_row
  source_there = (named-row t told h device source_row source_named).0

  source_own : filter_role source_row.kind ≡ None
  source_own = no_filter source_row.kind (takes-driver t told device drivers.FileRawOrQcow2 source_row source_named a.device_drives)

  source_settled : is_settled t source_row.id ≡ true
  source_settled = settled-node t told device source_row source_named a.settled

  source_flat : source_row.is_settled ≡ true
  source_flat = own-settled t told h source_row (h.apart source_row source_there) source_own source_settled

  source_plain : IsPlainNode t source_row.id
  source_plain = record {
    row = source_row;
    there = h.apart source_row source_there;
    own = source_own;
    free = free-node t told h source_row source_there source_settled;
  }

  abbrev target_row : NodeRecord
  target_row = (found-named t told target a.target_found).0

  target_named : node_named t target ≡ Some target_row
  target_named = (found-named t told target a.target_found).1

  target_there : Contains t.nodes target_row
  target_there = (named-row t told h target target_row target_named).0

  target_alone : IsAlone t target_row.id
  target_alone = no_edge target_row.id t.edges (lone-node t told target target_row target_named a.lone)

  target_plain : IsPlainNode t target_row.id
  target_plain = record {
    row = target_row;
    there = h.apart target_row target_there;
    own = no_filter target_row.kind (takes-driver t told target drivers.FileRawOrQcow2 target_row target_named a.target_drives);
    free = λ row over found some f own.
        target_alone f.edge f.there (f.child ∙ eqb-true row.id target_row.id (find-Some (λ (x : NodeRecord). x.id == target_row.id) t.nodes row found).1);
  }

  target_writable : target_row.read_only ≡ false
  target_writable = writable-node t told h target target_row target_named a.writable

  apart : target_row.id ≢ source_row.id
  apart same =
      let one : target_row ≡ source_row = same_row t h.apart source_row target_row source_there target_there same in
      let names : target ≡ device
      = sym (same-bytes_eq target_row.name target (named-row t told h target target_row target_named).1) ∙ ap (λ (x : NodeRecord). x.name) one
      ∙ same-bytes_eq source_row.name device (named-row t told h device source_row source_named).1 in
      let equal : bytes_eq target device ≡ true = subst (λ n. bytes_eq target n ≡ true) names (bytes_eq-same target) in
      false≢true (sym (ap not equal) ∙ a.other)

  source_is : id_or 0 t (Some device) ≡ source_row.id
  source_is = rw source_named refl

  target_is : id_named t target ≡ Some target_row.id
  target_is = rw target_named refl

  target_or : id_or 0 t (Some target) ≡ target_row.id
  target_or = rw target_named refl

  equal_sizes : source_row.size ≡ target_row.size
  unfolding holds
  equal_sizes = eqb-true source_row.size target_row.size (not-false _ (not-refused _ _ (rw (source_named, target_named) at a.sizes)))

  -- a backup or mirror begins with a target of its own
  copier_begins : (row : JobRecord) → row.source ≡ id_or 0 t (Some device) → row.target ≡ id_named t target → CopierBegins t row
  copier_begins row source target_at to is =
      let to_is : Some target_row.id ≡ Some to = sym (target_at ∙ target_is) ∙ copied_target row to is in
      let same : target_row.id ≡ to = cc to_is in
      subst (CopyCanGo t row) same (record {
        alone = target_alone;
        sizes = record {
          row = source_row;
          other = target_row;
          found = subst (λ n. node_by_id t n ≡ Some source_row) (sym (source ∙ source_is)) (h.apart source_row source_there);
          other_found = h.apart target_row target_there;
          same = equal_sizes;
        };
      })

  abbrev both : List ℕ
  both = id_or 0 t (Some device) ∷ id_or 0 t (Some target) ∷ []

  quiet : first_clash t both [] both ≡ None
  unfolding holds
  quiet = a.free

  few : length t.jobs < 16
  few = room_for_job t told a.jobs

  -- ---- the job

  module _ (row : JobRecord) (number : row.number ≡ t.started) (slot : row.slot ≡ next_slot t) (source : row.source ≡ id_or 0 t (Some device))
      (target_at : row.target ≡ id_named t target) (held : row.held ≡ both) (read : row.read ≡ []) (filter : row.filter ≡ Some (free_id t)) where
    node_cases : (node : ℕ) → Contains (nodes_of_job row) node → Contains both node
    node_cases node has = elim (in_either row.held row.read node has) [
      | inl mine ↦ subst (λ ids. Contains ids node) held mine
      | inr none ↦ absurd (Contains-nil node (subst (λ ids. Contains ids node) read none))
    ]

    plain_both : (node : ℕ) → Contains both node → IsPlainNode t node
    plain_both node there = elim (Contains-cases (id_or 0 t (Some device)) (id_or 0 t (Some target) ∷ []) node there) [
      | inl same ↦ subst (IsPlainNode t) (sym (same ∙ source_is)) source_plain
      | inr more ↦ elim (Contains-cases (id_or 0 t (Some target)) [] node more) [
        | inl same ↦ subst (IsPlainNode t) (sym (same ∙ target_or)) target_plain
        | inr none ↦ absurd (Contains-nil node none)
      ]
    ]

    nobodys : (node : ℕ) → Contains both node → (other : JobRecord) → Contains t.jobs other → Contains (nodes_of_job other) node → ⊥
    nobodys node there = held_free t both [] both quiet node there there

    abbrev copy_begins : CopyBegins t row
    copy_begins = record {
      filter = record { filter = filter; fresh = free_fresh t (room-left t told 1 a.nodes) };
      target = target_row.id;
      is_target = target_at ∙ target_is;
      held = held ∙ ap (λ n. n ∷ id_or 0 t (Some target) ∷ []) (sym source) ∙ ap (λ n. row.source ∷ n ∷ []) target_or;
      read = read;
      other = λ same. apart (same ∙ source ∙ source_is);
    }

    pub job_begins : BeginsByKind t row row.kind → JobBegins t row
    job_begins shape = record {
      slot = subst (λ n. n < 16) (sym slot) (slot_small t few);
      own_slot = λ other at same. slot_own t few other at (same ∙ slot);
      own_number = λ other at same. number_own t r other at (same ∙ number);
      plain = λ node has. plain_both node (node_cases node has);
      holds = λ other node at mine has. nobodys node (subst (λ ids. Contains ids node) held mine) other at has;
      reads = λ other node at theirs mine. nobodys node (node_cases node mine) other at (in_left other.held other.read node theirs);
      shape = shape;
    }

    pub run_begins : target_written row ≡ row.target → UnsettlesNoSource t row row.kind → RunBegins t row
    run_begins written others = record {
      number = number;
      source = λ node there at.
          let same : node ≡ source_row = same_row t h.apart source_row node source_there there (at ∙ source ∙ source_is) in
          subst (λ (x : NodeRecord). x.is_settled ≡ true) (sym same) source_flat;
      target = λ to is. inl (λ node there at.
          let both_at : Some target_row.id ≡ Some to = sym (target_at ∙ target_is) ∙ sym written ∙ is in
          let id : target_row.id ≡ to = cc both_at in
          let same : node ≡ target_row = same_row t h.apart target_row node target_there there (at ∙ sym id) in
          subst (λ (x : NodeRecord). x.read_only ≡ false) (sym same) target_writable);
      others = others;
    }

    -- ---- and a mirror's target leads to no source of one

    module _ (listed : IsListed t.edges) where
      none_reached : (sources : List ℕ) → first_reached t (id_or 0 t (Some target)) sources ≡ None → (source : ℕ) → Contains sources source
          → Reaches t.edges target_row.id source → ⊥
      none_reached [] none source there way = Contains-nil source there
      none_reached (x ∷ sources) none source there way =
          let parts = none-both (refused (reaches t (id_or 0 t (Some target)) x) (refusal.InUse (name_at t x) (name_at t (id_or 0 t (Some target)))))
          (first_reached t (id_or 0 t (Some target)) sources) none in
          elim (Contains-cases x sources source there) [
            | inl same ↦
                unreached t h listed target_row.id x (subst (λ n. reaches t n x ≡ false) target_or (not-refused _ _ parts.0)) (subst (Reaches t.edges target_row.id) same way)
            | inr more ↦ none_reached sources parts.1 source more way
          ]

      clear : first_reached t (id_or 0 t (Some target)) (id_or 0 t (Some device) ∷ mirrored t.jobs) ≡ None
      unfolding holds
      clear = a.clear

      mirrored_there : (rows : List JobRecord) (other : JobRecord) → Contains rows other → is_mirror other ≡ true → Contains (mirrored rows) other.source
      mirrored_there [] other there is = absurd (Contains-nil other there)
      mirrored_there (x ∷ rows) other there is = by_test (is_mirror x) refl (Contains-cases x rows other there) (λ more. mirrored_there rows other more is)
        where
          by_test : (b : Bool) → is_mirror x ≡ b → ((other ≡ x) ⊎ Contains rows other) → (Contains rows other → Contains (mirrored rows) other.source)
              → Contains (cond b (x.source ∷ mirrored rows) (mirrored rows)) other.source
          by_test true e (inl same) rest = subst (Contains (x.source ∷ mirrored rows)) (sym (ap (λ (y : JobRecord). y.source) same)) (Contains-here x.source (mirrored rows))
          by_test true e (inr more) rest = Contains-there x.source (mirrored rows) other.source (rest more)
          by_test false e (inl same) rest = absurd (false≢true (sym e ∙ ap is_mirror (sym same) ∙ is))
          by_test false e (inr more) rest = rest more

      pub mirror_begins : MirrorBegins t row
      mirror_begins = record {
        copies = copy_begins;
        own = none_reached (id_or 0 t (Some device) ∷ mirrored t.jobs) clear row.source
            (subst (Contains (id_or 0 t (Some device) ∷ mirrored t.jobs)) (sym source) (Contains-here (id_or 0 t (Some device)) (mirrored t.jobs)));
        earlier = λ m there.
            let x = mirror_row t.jobs m there in
            let is : is_mirror x.0 ≡ true = ap mirrors_by x.2 in
            let at : Contains (mirrored t.jobs) m.source = subst (Contains (mirrored t.jobs)) x.4 (mirrored_there t.jobs x.0 x.1 is) in (
              none_reached (id_or 0 t (Some device) ∷ mirrored t.jobs) clear m.source (Contains-there (id_or 0 t (Some device)) (mirrored t.jobs) m.source at),
              λ same. nobodys target_row.id
                  (subst (Contains both) target_or (Contains-there (id_or 0 t (Some device)) (id_or 0 t (Some target) ∷ []) (id_or 0 t (Some target)) (Contains-here (id_or 0 t (Some target)) [])))
                  x.0 x.1 (subst (Contains (nodes_of_job x.0)) (x.4 ∙ sym same) (source_has t x.0 (j.each x.0 x.1))),
            );
      }

-- ---- the commands

pub backup_begins : (t : RunTable) (told : Told) (group : Option ℕ) (c : Backup (List ℕ)) → TableStands t → JobsStand t → JobsRun t
    → is_other c.target c.device ≡ true → NoneHolds t told (backup_rest c) → Begins t (backup_job t group c)
backup_begins t told group c h j r other asks =
    let a = backup_asked t told c other asks in
    let row : JobRecord = backup_job t group c in
    record {
      job = job_begins t told h j r c.device c.target a row refl refl refl refl refl refl refl
          (copy_begins t told h j r c.device c.target a row refl refl refl refl refl refl refl);
      run = run_begins t told h j r c.device c.target a row refl refl refl refl refl refl refl refl tt;
    }

pub mirror_command_begins : (t : RunTable) (told : Told) (c : Mirror (List ℕ)) → TableStands t → JobsStand t → JobsRun t → IsListed t.edges
    → is_other c.target c.device ≡ true → NoneHolds t told (mirror_rest c) → Begins t (mirror_job t c)
mirror_command_begins t told c h j r listed other asks =
    let a = mirror_asked t told c other asks in
    let row : JobRecord = mirror_job t c in
    record {
      job = job_begins t told h j r c.device c.target a row refl refl refl refl refl refl refl
          (mirror_begins t told h j r c.device c.target a row refl refl refl refl refl refl refl listed);
      run = run_begins t told h j r c.device c.target a row refl refl refl refl refl refl refl refl tt;
    }

-- ---- what backups and mirrors copy to

pub backup_copies : (t : RunTable) (told : Told) (group : Option ℕ) (c : Backup (List ℕ)) → TableStands t → JobsStand t → JobsRun t
    → is_other c.target c.device ≡ true → NoneHolds t told (backup_rest c) → CopierBegins t (backup_job t group c)
backup_copies t told group c h j r other asks =
    copier_begins t told h j r c.device c.target (backup_asked t told c other asks) (backup_job t group c) refl refl

pub mirror_copies : (t : RunTable) (told : Told) (c : Mirror (List ℕ)) → TableStands t → JobsStand t → JobsRun t
    → is_other c.target c.device ≡ true → NoneHolds t told (mirror_rest c) → CopierBegins t (mirror_job t c)
mirror_copies t told c h j r other asks = copier_begins t told h j r c.device c.target (mirror_asked t told c other asks) (mirror_job t c) refl refl
