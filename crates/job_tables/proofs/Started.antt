-- The changes of a start leave jobs standing.
use Rattle.std.proofs.Common.{◌≡◌, ◌≢◌, ℕ, List, [], ◌∷◌, ◌++◌, map, refl, sym, ◌∙◌, ap, subst, inl, inr, Bool, true, false, cond, Option, Some, None}
use Rattle.std.specs.Prelude.{◌==◌}
use Rattle.std.specs.Option.{option_and_then}
use Rattle.std.specs.List.{Contains, filter}
use Rattle.std.proofs.lemmas.Bool.{eqb-true, eq-eqb}
use Rattle.blk_graph.specs.declared.edge.Parent.TheVariants.{Node}
use Rattle.blk_graph.specs.declared.edge.Role.TheVariants.{Backing, Between}
use Rattle.blk_graph.specs.declared.kind.Kind.{Kind}
use Rattle.blk_graph.specs.declared.kind.Kind.TheVariants as driver
use Rattle.blk_graph.specs.Paths.{Reaches}
use Rattle.blk_graph.proofs.Members.{Contains-nil, Contains-here, Contains-there, Contains-cases, find-Some}
use Rattle.blk_graph.proofs.PathLemmas.{Reaches-edge, Reaches-joined, Reaches-covered}
use Rattle.qmp_codec.specs.declared.event.JobKind.{JobKind}
use Rattle.qmp_codec.specs.declared.event.JobKind.TheVariants.{Stream, Commit, Mirror, Backup}
use Rattle.qmp_rules.specs.declared.change.Change.{Change}
use Rattle.qmp_rules.specs.declared.change.Change.TheVariants as change
use Rattle.qmp_rules.specs.declared.rows.NodeRecord.{NodeRecord}
use Rattle.qmp_rules.specs.declared.rows.JobRecord.{JobRecord}
use Rattle.qmp_rules.specs.Changes.{changed, all_changed}
use Rattle.qmp_rules.specs.Asks.{is_file}
use Rattle.qmp_rules.specs.Edits.{free_id, of_row, device_uses, file_uses, filter_row, filter_edits, file_used, file_below, writable_if, base_edits, under_top, reads_one_of, commit_unsettles, target_edits, uses_target, edits_by_kind, start_edits}
use Rattle.qmp_rules.specs.Table.{RunTable, node_by_id}
use Rattle.flat_machine.specs.Suiting.{IsPlainNode}
use Rattle.flat_machine.specs.Wiring.{EdgesHaveEnds, TableStands}
use Rattle.flat_machine.proofs.Fresh.{no-found}
use Rattle.flat_machine.proofs.Tables.{pushed-cases}
use Rattle.flat_machine.proofs.WritingKept.{role_edge}
use Rattle.job_edges.specs.Copies.{Copied, AreApart}
use Rattle.job_edges.specs.Held.{is_job_filter}
use Rattle.job_tables.specs.Rows.{nodes_of_job, AreLinked, HasFilterOf, mirror_to, mirrors}
use Rattle.job_tables.specs.Jobs.{CopyStands, IsOverFilter, CommitJobStands, StreamJobStands, StandsByKind, filter_kind, JobsStand}
use Rattle.job_tables.specs.Starts.{IsToFilter, CopyBegins, MirrorBegins, IsOverTop, CommitBegins, BeginsByKind, JobBegins}
use Rattle.job_tables.proofs.RowEdges.{in_left, in_right, copy_holds, holds_source}
use Rattle.job_tables.proofs.Kept.{mirror_row}
use Rattle.job_tables.proofs.Changes.{plain_no_filter}
use Rattle.job_tables.proofs.Ended.{all_changed-append}
use Rattle.job_tables.proofs.Others.{OthersStand, IsNobodys}
use Rattle.job_tables.proofs.Left.{apart_as}
use Rattle.job_tables.proofs.Uses.{change_of, uses_by, stream_changes, commit_changes, target_changes}
use Rattle.job_tables.proofs.Put.{plain_put, child_put, child_put_over, child_own, found_own, put_ways, put_others}
use Rattle.job_tables.proofs.Begun.{IsLikeTable, AreBefore, before-append, all_before, mirrors-push, apart-push, apart-none, apart_ways, begun_jobs}

-- ---- what comes first

before_uses : (row : NodeRecord) → AreBefore (device_uses row)
before_uses row = by_file (is_file row) row.filename
  where
    by_file : (b : Bool) (name : Option (List ℕ)) → AreBefore (cond b (file_uses name) [])
    by_file true None = tt
    by_file true (Some name) = (tt, tt)
    by_file false name = tt

pub before_used : (t : RunTable) (node : Option ℕ) → AreBefore (file_used t node)
before_used t node = by_row (option_and_then (node_by_id t) node)
  where
    by_row : (found : Option NodeRecord) → AreBefore (of_row device_uses found)
    by_row None = tt
    by_row (Some row) = before_uses row

before_unsettles : (rows : List NodeRecord) → AreBefore (map (λ row. change.Unsettle row.id) rows)
before_unsettles [] = tt
before_unsettles (row ∷ rows) = (tt, before_unsettles rows)

before_if : (b : Bool) (node : Option ℕ) → AreBefore (writable_if b node)
before_if true (Some node) = (tt, tt)
before_if true None = tt
before_if false node = tt

before_base : (t : RunTable) (row : JobRecord) → AreBefore (base_edits t row)
before_base t row =
    before-append (writable_if row.made_writable.file (file_below t row.target)) (writable_if row.made_writable.base row.target)
    (before_if row.made_writable.file (file_below t row.target)) (before_if row.made_writable.base row.target)

pub before_target : (t : RunTable) (target : Option ℕ) → AreBefore (target_edits t target)
before_target t None = tt
before_target t (Some target) = before-append (file_used t (Some target)) (change.Unsettle target ∷ []) (before_used t (Some target)) (tt, tt)

pub before_commit : (t : RunTable) (row : JobRecord) → AreBefore (file_used t row.target ++ commit_unsettles t row ++ base_edits t row)
before_commit t row =
    before-append (file_used t row.target ++ commit_unsettles t row) (base_edits t row)
    (before-append (file_used t row.target) (commit_unsettles t row) (before_used t row.target)
    (before_unsettles (filter (reads_one_of t row.source (under_top row)) t.nodes)))
    (before_base t row)

linked_like : (t now : RunTable) → IsLikeTable t now → (node : ℕ) (ids : List ℕ) → AreLinked t node ids → AreLinked now node ids
linked_like t now like node [] l = tt
linked_like t now like node (below ∷ ids) l = (like.children node Backing ∙ l.0, linked_like t now like below ids l.1)

pub chain_way : (t : RunTable) (node : ℕ) (ids : List ℕ) → AreLinked t node ids → (n : ℕ) → Contains ids n → Reaches t.edges node n
chain_way t node [] l n there = absurd (Contains-nil n there)
chain_way t node (below ∷ ids) l n there =
    let x = role_edge (Node node) Backing t.edges below l.0 in
    let first : Reaches t.edges node below = subst (Reaches t.edges node) x.to (Reaches-edge t.edges node x.edge x.there x.from) in
    elim (Contains-cases below ids n there) [
      | inl same ↦ subst (Reaches t.edges node) (sym same) first
      | inr more ↦ Reaches-joined t.edges node below n first (chain_way t below ids l.1 n more)
    ]

module _ (t : RunTable) (h : TableStands t) (j : JobsStand t) (row : JobRecord) (b : JobBegins t row) where
  others : OthersStand t None
  others = record {
    each = j.each;
    slots = j.slots;
    numbers = j.numbers;
    edges = j.edges;
    apart = j.apart;
    filters = λ n there is. inr (j.filters n there is);
  }

  pub source_held : Contains row.held row.source
  source_held = by_kind row.kind b.shape
    where
      first : (ids : List ℕ) → row.held ≡ row.source ∷ ids → Contains row.held row.source
      first ids is = subst (λ xs. Contains xs row.source) (sym is) (Contains-here row.source ids)

      by_kind : (k : JobKind) → BeginsByKind t row k → Contains row.held row.source
      by_kind Stream s = first [] s.held
      by_kind Commit s = first (s.between ++ s.base ∷ []) s.held
      by_kind Mirror s = first (s.copies.target ∷ []) s.copies.held
      by_kind Backup s = first (s.target ∷ []) s.held

  pub source_plain : IsPlainNode t row.source
  source_plain = b.plain row.source (in_left row.held row.read row.source source_held)

  -- ---- once the table is ready for it

  record IsReady (now : RunTable) (loose : Option ℕ) : Type 0 where
    stand : OthersStand now loose
    jobs : now.jobs ≡ t.jobs
    plain : (node : ℕ) → IsPlainNode t node → IsPlainNode now node
    shape : StandsByKind now row row.kind
    filters : (node : NodeRecord) → Contains now.nodes node → loose ≡ Some node.id → (row.filter ≡ Some node.id) × (filter_kind row.kind ≡ Some node.kind)
    copies : AreApart now.edges (mirrors t.jobs ++ mirror_to row row.kind row.target)

  begins : (now : RunTable) (loose : Option ℕ) → IsReady now loose → JobsStand (all_changed now (change.StartJob row ∷ map (change_of row.slot) (uses_by row row.kind)))
  begins now loose r =
      begun_jobs now row loose r.stand b.slot (λ other at. b.own_slot other (was other at)) (λ other at. b.own_number other (was other at))
      (λ other node at. b.holds other node (was other at)) (λ other node at. b.reads other node (was other at))
      (λ node held. r.plain node (b.plain node held)) r.shape r.filters
      (subst (AreApart now.edges) (sym (ap (λ rows. mirrors (rows ++ row ∷ [])) r.jobs ∙ mirrors-push t.jobs row)) r.copies)
    where
      was : (other : JobRecord) → Contains now.jobs other → Contains t.jobs other
      was other at = subst (λ rows. Contains rows other) r.jobs at

  -- ---- streams

  stream_begins : (k : row.kind ≡ Stream) → StreamJobStands t row → JobsStand (all_changed t (edits_by_kind t row Stream))
  stream_begins k s =
      subst (λ changes. JobsStand (all_changed t (pre ++ change.StartJob row ∷ changes))) (stream_changes row)
      (subst (λ k'. JobsStand (all_changed t (pre ++ change.StartJob row ∷ map (change_of row.slot) (uses_by row k')))) k
      (subst JobsStand (sym (all_changed-append t pre (change.StartJob row ∷ map (change_of row.slot) (uses_by row row.kind)))) (begins now None ready)))
    where
      pre : List Change
      pre = file_used t row.target

      now : RunTable
      now = all_changed t (file_used t row.target)

      like : IsLikeTable t (all_changed t (file_used t row.target))
      like = all_before (file_used t row.target) t (before_used t row.target)

      links_as : (node : ℕ) (ids : List ℕ) → AreLinked t node ids → AreLinked (all_changed t (file_used t row.target)) node ids
      links_as node ids l = linked_like t (all_changed t (file_used t row.target)) (all_before (file_used t row.target) t (before_used t row.target)) node ids l

      ready : IsReady (all_changed t (file_used t row.target)) None
      ready = record {
        stand = like.others others;
        jobs = like.jobs;
        plain = like.plain;
        shape = subst (StandsByKind (all_changed t (file_used t row.target)) row) (sym k) (record {
          bare = s.bare;
          held = s.held;
          reads = λ base is.
              let r = s.reads base is in
              record { between = r.between; read = r.read; linked = links_as row.source (r.between ++ base ∷ []) r.linked };
          below = λ n is. s.below n (sym (like.children row.source Backing) ∙ is);
        });
        filters = λ node there none. absurd (let bad : None ≡ Some node.id = none in cc bad);
        copies = subst (λ own. AreApart now.edges (mirrors t.jobs ++ own)) (sym (ap (λ k'. mirror_to row k' row.target) k))
            (apart-none now.edges (mirrors t.jobs) (apart_as t.edges now.edges like.leads (mirrors t.jobs) j.copies));
      }

  -- ---- jobs with a filter

  module _ (pre : List Change) (before : AreBefore pre) (kind : Kind) (of_job : is_job_filter kind ≡ true) (of_kind : filter_kind row.kind ≡ Some kind) (f : IsToFilter t row) where
    abbrev first : RunTable
    first = all_changed t pre

    like : IsLikeTable t first
    like = all_before pre t before

    abbrev new : NodeRecord
    new = filter_row t kind row.id source_plain.row

    abbrev put : Change
    put = change.PutFilter new row.source

    abbrev ready_table : RunTable
    ready_table = changed first put

    fresh : node_by_id first new.id ≡ None
    fresh = like.absent (free_id t) f.fresh

    ends : EdgesHaveEnds first
    ends = like.ends h.edges

    not_new : (node : ℕ) → IsPlainNode t node → node ≢ new.id
    not_new node p same = let bad : None ≡ Some p.row = sym f.fresh ∙ ap (node_by_id t) (sym same) ∙ p.there in cc bad

    free : IsNobodys first.jobs row.source
    free = subst (λ rows. IsNobodys rows row.source) (sym like.jobs) (record {
      held = λ other at has. b.holds other row.source at source_held has;
      filter = λ other at. plain_no_filter t j row.source source_plain other at;
    })

    stand : OthersStand ready_table (Some new.id)
    stand = put_others first new row.source fresh ends (like.others others) free

    has_filter : HasFilterOf ready_table row kind
    has_filter = record {
      filter = new.id;
      is_filter = f.filter;
      node = new;
      there = found_own first new row.source fresh ends;
      kind_is = refl;
      over = child_own first new row.source fresh ends;
    }

    jobs_same : ready_table.jobs ≡ t.jobs
    unfolding changed
    jobs_same = like.jobs

    plain_ready : (node : ℕ) → IsPlainNode t node → IsPlainNode ready_table node
    plain_ready node p = plain_put first new row.source fresh ends node (like.plain node p)

    is_own : (node : NodeRecord) → Contains ready_table.nodes node → Some new.id ≡ Some node.id → (row.filter ≡ Some node.id) × (filter_kind row.kind ≡ Some node.kind)
    unfolding changed
    is_own node there same = elim (pushed-cases first.nodes new node there) [
      | inl old ↦
          let id : new.id ≡ node.id = cc same in
          absurd (no-found (λ r. r.id == new.id) first.nodes node fresh old (eq-eqb node.id new.id (sym id)))
      | inr is ↦ (f.filter ∙ same, of_kind ∙ ap Some (sym (ap (λ (r : NodeRecord). r.kind) is)))
    ]

    -- ways between plain nodes
    ways : (a z : ℕ) → IsPlainNode t a → IsPlainNode t z → Reaches ready_table.edges a z → Reaches t.edges a z
    ways a z at_a at_z way =
        let old = put_ways first new row.source fresh ends (not_new row.source source_plain) a z (not_new a at_a) (not_new z at_z) way in
        Reaches-covered first.edges t.edges like.leads a z old.first old.rest old.path

    target_plain : (x : Copied) → Contains (mirrors t.jobs) x → IsPlainNode t x.target × IsPlainNode t x.source
    target_plain x there =
        let r = mirror_row t.jobs x there in
        let stands = j.each r.0 r.1 in
        let c : CopyStands t r.0 driver.Mirror = subst (StandsByKind t r.0) r.2 stands.shape in
        let is : c.target ≡ x.target = let both : Some c.target ≡ Some x.target = sym c.is_target ∙ r.3 in cc both in (
          subst (IsPlainNode t) is (stands.plain c.target (in_left r.0.held r.0.read c.target (copy_holds t r.0 driver.Mirror c))),
          subst (IsPlainNode t) r.4 (stands.plain r.0.source (in_left r.0.held r.0.read r.0.source (holds_source t r.0 stands))),
        )

    copies_old : AreApart ready_table.edges (mirrors t.jobs)
    copies_old =
        apart_ways t.edges ready_table.edges (mirrors t.jobs) (λ x m at_x at_m. ways x.target m.source (target_plain x at_x).0 (target_plain m at_m).1) j.copies

    ready_with : StandsByKind ready_table row row.kind → AreApart ready_table.edges (mirrors t.jobs ++ mirror_to row row.kind row.target) → IsReady ready_table (Some new.id)
    ready_with shape copies = record {
      stand = stand;
      jobs = jobs_same;
      plain = plain_ready;
      shape = shape;
      filters = is_own;
      copies = copies;
    }

    -- the list of changes
    filter_is : filter_edits t kind row ≡ put ∷ []
    filter_is =
        ap (of_row (λ r. change.PutFilter (filter_row t kind row.id r) r.id ∷ [])) source_plain.there
        ∙ ap (λ n. change.PutFilter new n ∷ []) (eqb-true source_plain.row.id row.source (find-Some (λ (r : NodeRecord). r.id == row.source) t.nodes source_plain.row source_plain.there).1)

    begins_with : IsReady ready_table (Some new.id) → (uses : List Change) → map (change_of row.slot) (uses_by row row.kind) ≡ uses
        → JobsStand (all_changed t (pre ++ filter_edits t kind row ++ change.StartJob row ∷ uses))
    begins_with r uses is =
        subst (λ changes. JobsStand (all_changed t (pre ++ filter_edits t kind row ++ change.StartJob row ∷ changes))) is
        (subst (λ filters. JobsStand (all_changed t (pre ++ filters ++ change.StartJob row ∷ map (change_of row.slot) (uses_by row row.kind)))) (sym filter_is)
        (subst JobsStand (sym (all_changed-append t (pre ++ put ∷ []) (change.StartJob row ∷ map (change_of row.slot) (uses_by row row.kind))))
        (subst (λ now. JobsStand (all_changed now (change.StartJob row ∷ map (change_of row.slot) (uses_by row row.kind)))) (sym (all_changed-append t pre (put ∷ [])))
        (begins ready_table (Some new.id) r))))

    copy_shape : CopyBegins t row → CopyStands ready_table row kind
    copy_shape c = record {
      filter = has_filter;
      target = c.target;
      is_target = c.is_target;
      held = c.held;
      read = c.read;
      other = c.other;
    }

    links_ready : (node : ℕ) (ids : List ℕ) → node ≢ new.id → ((n : ℕ) → Contains ids n → (n ≢ new.id) × (n ≢ row.source)) → AreLinked t node ids → AreLinked ready_table node ids
    links_ready node [] off all l = tt
    links_ready node (below ∷ ids) off all l =
        let here = all below (Contains-here below ids) in (
          child_put first new row.source fresh ends node Backing below off (λ bad. let no : Backing ≡ Between = bad in cc no) here.1 (like.children node Backing ∙ l.0),
          links_ready below ids here.0 (λ n there. all n (Contains-there below ids n there)) l.1,
        )

    commit_shape : CommitBegins t row → kind ≡ driver.Commit → CommitJobStands ready_table row
    commit_shape c is = record {
      filter = subst (HasFilterOf ready_table row) is has_filter;
      base = c.base;
      is_base = c.is_base;
      between = c.between;
      held = c.held;
      linked = links_ready row.source (c.between ++ c.base ∷ []) (not_new row.source source_plain)
          (λ n there. (
            not_new n (b.plain n (in_left row.held row.read n (subst (λ ids. Contains ids n) (sym c.held) (Contains-there row.source (c.between ++ c.base ∷ []) n there)))),
            λ same. h.acyclic row.source (subst (Reaches t.edges row.source) same (chain_way t row.source (c.between ++ c.base ∷ []) c.linked n there)),
          )) c.linked;
      overlay = over_filter row.read (λ n there. in_right row.held row.read n there) c.overlay;
    }
      where
        over_filter : (ids : List ℕ) → ((n : ℕ) → Contains ids n → Contains (nodes_of_job row) n) → IsOverTop t ids row.source → IsOverFilter ready_table ids row.filter
        over_filter [] all is = tt
        over_filter (overlay ∷ ids) all is = (
          child_put_over first new row.source fresh ends overlay (not_new overlay (b.plain overlay (all overlay (Contains-here overlay ids)))) (like.children overlay Backing ∙ is.0)
              ∙ sym f.filter,
          is.1,
        )

  no_mirror : (now : RunTable) → mirror_to row row.kind row.target ≡ [] → AreApart now.edges (mirrors t.jobs)
      → AreApart now.edges (mirrors t.jobs ++ mirror_to row row.kind row.target)
  no_mirror now none all = subst (λ own. AreApart now.edges (mirrors t.jobs ++ own)) (sym none) (apart-none now.edges (mirrors t.jobs) all)

  commit_begins : (k : row.kind ≡ Commit) → CommitBegins t row → JobsStand (all_changed t (edits_by_kind t row Commit))
  commit_begins k c =
      begins_with pre (before_commit t row) driver.Commit refl (ap filter_kind k) c.filter
      (ready_with pre (before_commit t row) driver.Commit refl (ap filter_kind k) c.filter
      (subst (StandsByKind (ready_table pre (before_commit t row) driver.Commit refl (ap filter_kind k) c.filter) row) (sym k)
      (commit_shape pre (before_commit t row) driver.Commit refl (ap filter_kind k) c.filter c refl))
      (no_mirror (ready_table pre (before_commit t row) driver.Commit refl (ap filter_kind k) c.filter) (ap (λ k'. mirror_to row k' row.target) k)
      (copies_old pre (before_commit t row) driver.Commit refl (ap filter_kind k) c.filter)))
      _ (ap (λ k'. map (change_of row.slot) (uses_by row k')) k ∙ commit_changes row)
    where
      pre : List Change
      pre = file_used t row.target ++ commit_unsettles t row ++ base_edits t row

  backup_begins : (k : row.kind ≡ Backup) → CopyBegins t row → JobsStand (all_changed t (edits_by_kind t row Backup))
  backup_begins k c =
      begins_with (target_edits t row.target) (before_target t row.target) driver.BeforeWrite refl (ap filter_kind k) c.filter
      (ready_with (target_edits t row.target) (before_target t row.target) driver.BeforeWrite refl (ap filter_kind k) c.filter
      (subst (StandsByKind (ready_table (target_edits t row.target) (before_target t row.target) driver.BeforeWrite refl (ap filter_kind k) c.filter) row) (sym k)
      (copy_shape (target_edits t row.target) (before_target t row.target) driver.BeforeWrite refl (ap filter_kind k) c.filter c))
      (no_mirror (ready_table (target_edits t row.target) (before_target t row.target) driver.BeforeWrite refl (ap filter_kind k) c.filter) (ap (λ k'. mirror_to row k' row.target) k)
      (copies_old (target_edits t row.target) (before_target t row.target) driver.BeforeWrite refl (ap filter_kind k) c.filter)))
      (uses_target row row.target) (ap (λ k'. map (change_of row.slot) (uses_by row k')) k ∙ target_changes row row.target)

  mirror_begins : (k : row.kind ≡ Mirror) → MirrorBegins t row → JobsStand (all_changed t (edits_by_kind t row Mirror))
  mirror_begins k m =
      begins_with (target_edits t row.target) (before_target t row.target) driver.Mirror refl (ap filter_kind k) m.copies.filter
      (ready_with (target_edits t row.target) (before_target t row.target) driver.Mirror refl (ap filter_kind k) m.copies.filter
      (subst (StandsByKind now row) (sym k) (copy_shape (target_edits t row.target) (before_target t row.target) driver.Mirror refl (ap filter_kind k) m.copies.filter m.copies))
      (subst (λ own. AreApart now.edges (mirrors t.jobs ++ own)) (sym own_copy)
      (apart-push now.edges (mirrors t.jobs) one (copies_old (target_edits t row.target) (before_target t row.target) driver.Mirror refl (ap filter_kind k) m.copies.filter)
      (λ x there.
      let p = target_plain (target_edits t row.target) (before_target t row.target) driver.Mirror refl (ap filter_kind k) m.copies.filter x there in (
        λ way. (m.earlier x there).0
            (ways (target_edits t row.target) (before_target t row.target) driver.Mirror refl (ap filter_kind k) m.copies.filter m.copies.target x.source target_at p.1 way),
        (m.earlier x there).1,
      )) (
        λ way. m.own (ways (target_edits t row.target) (before_target t row.target) driver.Mirror refl (ap filter_kind k) m.copies.filter m.copies.target row.source target_at source_plain way),
        m.copies.other,
      ))))
      (uses_target row row.target) (ap (λ k'. map (change_of row.slot) (uses_by row k')) k ∙ target_changes row row.target)
    where
      one : Copied
      one = record { source = row.source; target = m.copies.target }

      now : RunTable
      now = ready_table (target_edits t row.target) (before_target t row.target) driver.Mirror refl (ap filter_kind k) m.copies.filter

      own_copy : mirror_to row row.kind row.target ≡ record { source = row.source; target = m.copies.target } ∷ []
      own_copy = rw (k, m.copies.is_target) refl

      target_at : IsPlainNode t m.copies.target
      target_at = b.plain m.copies.target (in_left row.held row.read m.copies.target
          (subst (λ ids. Contains ids m.copies.target) (sym m.copies.held) (Contains-there row.source (m.copies.target ∷ []) m.copies.target (Contains-here m.copies.target []))))

  any_begins : (k : JobKind) → row.kind ≡ k → BeginsByKind t row k → JobsStand (all_changed t (edits_by_kind t row k))
  any_begins Stream k s = stream_begins k s
  any_begins Commit k s = commit_begins k s
  any_begins Mirror k s = mirror_begins k s
  any_begins Backup k s = backup_begins k s

pub starts_stand : (t : RunTable) (row : JobRecord) → TableStands t → JobsStand t → JobBegins t row → JobsStand (all_changed t (start_edits t row))
unfolding start_edits
starts_stand t row h j b = any_begins t h j row b row.kind refl b.shape
