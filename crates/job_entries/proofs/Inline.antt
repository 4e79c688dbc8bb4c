-- A `file` node that was made with a format node stays under that where filters come and go, and where parents move.
use Rattle.std.proofs.Common.{◌≡◌, ◌≢◌, ℕ, Bool, true, false, cond, List, [], ◌∷◌, map, refl, sym, ◌∙◌, ap, subst, inl, inr, Option, Some, None}
use Rattle.std.specs.Prelude.{◌==◌, ◌&&◌, not, IsSome}
use Rattle.std.specs.Option.{option_map}
use Rattle.std.specs.List.{find, Contains}
use Rattle.blk_graph.specs.declared.edge.Parent.TheVariants.{Node}
use Rattle.blk_graph.specs.declared.edge.Role.TheVariants.{File, Backing}
use Rattle.blk_graph.specs.Edits.{child_of, with_edge}
use Rattle.blk_graph.specs.Permissions.{node_edge, job_edge}
use Rattle.blk_graph.proofs.ChildLemmas.{child-kept}
use Rattle.blk_graph.proofs.DraftLemmas.{children_removed}
use Rattle.blk_graph.proofs.Members.{Contains-map, Contains-filter}
use Rattle.blk_graph.proofs.RefreshLemmas.{child_of-refreshed}
use Rattle.qmp_rules.specs.declared.change.Change.{Change}
use Rattle.qmp_rules.specs.declared.change.Change.TheVariants as change
use Rattle.qmp_rules.specs.declared.rows.NodeRecord.{NodeRecord}
use Rattle.qmp_rules.specs.Changes.{changed, node_changed, unsettled, writable, with_writable, settled, kept_from_writes, with_read_only, with_backing}
use Rattle.qmp_rules.specs.Chains.{filter_role}
use Rattle.qmp_rules.specs.Table.{RunTable, node_by_id, child, kinds_of}
use Rattle.qmp_asks.specs.Naming.{inline_name}
use Rattle.blk_history.specs.Fold.{With}
use Rattle.flat_machine.specs.State.{State}
use Rattle.flat_machine.specs.Changed.{stepped, all_stepped}
use Rattle.flat_machine.specs.Standing.{StandsAtRest}
use Rattle.flat_machine.specs.Suiting.{AllSuit}
use Rattle.flat_machine.specs.Wiring.{IsInline, InlineAreUnder, TableStands}
use Rattle.flat_machine.proofs.Fresh.{found-longer}
use Rattle.flat_machine.proofs.StandingKept.{all_stand}
use Rattle.flat_machine.proofs.Tables.{pushed-cases}
use Rattle.flat_machine.proofs.TablesKept.{child-role}
use Rattle.flat_machine.proofs.Wired.{with_at, at_with}
use Rattle.flat_machine.proofs.WritingKept.{role_edge}
use Rattle.job_tables.proofs.NodeKinds.{found_mapped, still_found}
use Rattle.job_entries.proofs.Files.{IsOwn, IsNoFile, no_own, child_ended, child_pulled, child_put, child_gone_over}
use Rattle.job_entries.proofs.Steps.{IsStep, AllSteps}

-- ---- what carries them

-- a node that is no filter stays, with its name and its file
pub record RowStays (t now : RunTable) (n : ℕ) (o : IsOwn t n) : Type 0 where
  pub later : NodeRecord
  pub found : node_by_id now n ≡ Some later
  pub name : later.name ≡ o.row.name
  pub kind : later.kind ≡ o.row.kind

-- a row was there, with what was said of its making
pub record RowWas (t : RunTable) (later : NodeRecord) : Type 0 where
  pub row : NodeRecord
  pub there : Contains t.nodes row
  pub id : later.id ≡ row.id
  pub name : later.name ≡ row.name
  pub filename : later.filename ≡ row.filename
  pub made_with : later.made_with ≡ row.made_with

pub record Carries (t now : RunTable) : Type 0 where
  pub rows : (n : ℕ) (o : IsOwn t n) → RowStays t now n o
  pub files : (n : ℕ) → IsOwn t n → child now n File ≡ child t n File
  pub back : (later : NodeRecord) → Contains now.nodes later → IsSome later.made_with → RowWas t later

abbrev still_own : (t now : RunTable) (n : ℕ) (o : IsOwn t n) → RowStays t now n o → IsOwn now n
still_own t now n o r = record { row = r.later; found = r.found; own = ap filter_role r.kind ∙ o.own }

carries_self : (t : RunTable) → Carries t t
carries_self t = record {
  rows = λ n o. record { later = o.row; found = o.found; name = refl; kind = refl };
  files = λ n o. refl;
  back = λ row there some. record { row = row; there = there; id = refl; name = refl; filename = refl; made_with = refl };
}

carries_then : (a b c : RunTable) → Carries a b → Carries b c → Carries a c
carries_then a b c ab bc = record {
  rows = λ n o.
      let r = ab.rows n o in
      let q = bc.rows n (still_own a b n o r) in
      record { later = q.later; found = q.found; name = q.name ∙ r.name; kind = q.kind ∙ r.kind };
  files = λ n o. bc.files n (still_own a b n o (ab.rows n o)) ∙ ab.files n o;
  back = λ later there some.
      let r = bc.back later there some in
      let q = ab.back r.row r.there (subst IsSome r.made_with some) in
      record {
        row = q.row;
        there = q.there;
        id = r.id ∙ q.id;
        name = r.name ∙ q.name;
        filename = r.filename ∙ q.filename;
        made_with = r.made_with ∙ q.made_with;
      };
}

pub inline_carried : (t now : RunTable) → TableStands t → Carries t now → InlineAreUnder t → InlineAreUnder now
inline_carried t now h c inline later over there made = by_found (node_by_id t over) refl
  where
    was : RowWas t later
    was = c.back later there (subst IsSome (sym made) refl)

    i : IsInline t was.row over
    i = inline was.row over was.there (sym was.made_with ∙ made)

    file : child t over File ≡ Some was.row.id
    file =
        let of = h.single i.edge i.there i.role in
        let both : Node of.0 ≡ Node over = sym of.1.0 ∙ i.parent in
        let same : of.0 ≡ over = cc both in
        subst (λ n. child t n File ≡ Some i.edge.child) same of.1.1 ∙ ap Some i.child

    under : (row : NodeRecord) → node_by_id t over ≡ Some row → IsInline now later over
    under row found =
        let o : IsOwn t over = record { row = row; found = found; own = at_with (λ (r : NodeRecord). filter_role r.kind ≡ None) (node_by_id t over) row found i.format } in
        let r = c.rows over o in
        let e = role_edge (Node over) File now.edges was.row.id (c.files over o ∙ file) in
        record {
          file = subst IsSome (sym was.filename) i.file;
          edge = e.edge;
          there = e.there;
          parent = e.from;
          role = e.role_is;
          child = e.to ∙ sym was.id;
          format = with_at (λ (x : NodeRecord). filter_role x.kind ≡ None) (node_by_id now over) r.later r.found (ap filter_role r.kind ∙ o.own);
          named = with_at (λ (x : NodeRecord). later.name ≡ inline_name x.name None) (node_by_id now over) r.later r.found
              (was.name ∙ at_with (λ (x : NodeRecord). was.row.name ≡ inline_name x.name None) (node_by_id t over) row found i.named
              ∙ ap (λ name. inline_name name None) (sym r.name));
        }

    by_found : (found : Option NodeRecord) → node_by_id t over ≡ found → IsInline now later over
    by_found None is = absurd (subst (λ o. With o (λ (r : NodeRecord). filter_role r.kind ≡ None)) is i.format)
    by_found (Some row) is = under row is

-- ---- each kind of change of starts and ends

same_carries : (t now : RunTable) → now.nodes ≡ t.nodes → ((n : ℕ) → IsOwn t n → child now n File ≡ child t n File) → Carries t now
same_carries t now nodes files = record {
  rows = λ n o. record { later = o.row; found = ap (find (λ (r : NodeRecord). r.id == n)) nodes ∙ o.found; name = refl; kind = refl };
  files = files;
  back = λ row there some.
      record { row = row; there = subst (λ rows. Contains rows row) nodes there; id = refl; name = refl; filename = refl; made_with = refl };
}

-- a row is changed in something else
record KeepsNames (f : NodeRecord → NodeRecord) (row : NodeRecord) : Type 0 where
  id : (f row).id ≡ row.id
  name : (f row).name ≡ row.name
  kind : (f row).kind ≡ row.kind
  filename : (f row).filename ≡ row.filename
  made_with : (f row).made_with ≡ row.made_with

mapped_carries : (t now : RunTable) (f : NodeRecord → NodeRecord) → ((row : NodeRecord) → KeepsNames f row) → now.nodes ≡ map f t.nodes
    → ((n : ℕ) → child now n File ≡ child t n File) → Carries t now
mapped_carries t now f keeps nodes files = record {
  rows = λ n o. record {
    later = f o.row;
    found = found_mapped t now f (λ row. (keeps row).id) nodes n ∙ ap (option_map f) o.found;
    name = (keeps o.row).name;
    kind = (keeps o.row).kind;
  };
  files = λ n o. files n;
  back = λ later there some.
      let was = Contains-map f t.nodes later (subst (λ rows. Contains rows later) nodes there) in
      let k = keeps was.0 in
      record {
        row = was.0;
        there = was.1;
        id = ap (λ (r : NodeRecord). r.id) was.2 ∙ k.id;
        name = ap (λ (r : NodeRecord). r.name) was.2 ∙ k.name;
        filename = ap (λ (r : NodeRecord). r.filename) was.2 ∙ k.filename;
        made_with = ap (λ (r : NodeRecord). r.made_with) was.2 ∙ k.made_with;
      };
}

if_same : {X : Type 0} (g : NodeRecord → X) (changed row : NodeRecord) → g changed ≡ g row → (b : Bool) → g (cond b changed row) ≡ g row
if_same g changed row same true = same
if_same g changed row same false = refl

unsettled_names : (id : ℕ) (row : NodeRecord) → KeepsNames (node_changed id unsettled) row
unsettled_names id row = record {
  id = if_same (λ r. r.id) (unsettled row) row refl (row.id == id);
  name = if_same (λ r. r.name) (unsettled row) row refl (row.id == id);
  kind = if_same (λ r. r.kind) (unsettled row) row refl (row.id == id);
  filename = if_same (λ r. r.filename) (unsettled row) row refl (row.id == id);
  made_with = if_same (λ r. r.made_with) (unsettled row) row refl (row.id == id);
}

settled_names : (id : ℕ) (row : NodeRecord) → KeepsNames (node_changed id settled) row
settled_names id row = record {
  id = if_same (λ r. r.id) (settled row) row refl (row.id == id);
  name = if_same (λ r. r.name) (settled row) row refl (row.id == id);
  kind = if_same (λ r. r.kind) (settled row) row refl (row.id == id);
  filename = if_same (λ r. r.filename) (settled row) row refl (row.id == id);
  made_with = if_same (λ r. r.made_with) (settled row) row refl (row.id == id);
}

writable_names : (id : ℕ) (row : NodeRecord) → KeepsNames (node_changed id writable) row
writable_names id row = record {
  id = if_same (λ r. r.id) (writable row) row refl (row.id == id);
  name = if_same (λ r. r.name) (writable row) row refl (row.id == id);
  kind = if_same (λ r. r.kind) (writable row) row refl (row.id == id);
  filename = if_same (λ r. r.filename) (writable row) row refl (row.id == id);
  made_with = if_same (λ r. r.made_with) (writable row) row refl (row.id == id);
}

kept_names : (id : ℕ) (row : NodeRecord) → KeepsNames (node_changed id kept_from_writes) row
kept_names id row = record {
  id = if_same (λ r. r.id) (kept_from_writes row) row refl (row.id == id);
  name = if_same (λ r. r.name) (kept_from_writes row) row refl (row.id == id);
  kind = if_same (λ r. r.kind) (kept_from_writes row) row refl (row.id == id);
  filename = if_same (λ r. r.filename) (kept_from_writes row) row refl (row.id == id);
  made_with = if_same (λ r. r.made_with) (kept_from_writes row) row refl (row.id == id);
}

child_rebased : (t : RunTable) (node : ℕ) (backing : Option ℕ) (n : ℕ) → child (changed t (change.Rebase node backing)) n File ≡ child t n File
unfolding changed
child_rebased t node backing n = child_of-refreshed (kinds_of t.nodes) (Node n) File (with_backing node backing t.edges) ∙ by_backing backing
  where
    apart : (b : Bool) → (b && false) ≡ false
    apart true = refl
    apart false = refl

    by_backing : (b : Option ℕ) → child_of (Node n) File (with_backing node b t.edges) ≡ child t n File
    by_backing None = children_removed (Node node) Backing t.edges (Node n) File (apart (n == node))
    by_backing (Some below) = child-role (Node n) File (node_edge node Backing below) t.edges refl

put_carries : (t : RunTable) (row : NodeRecord) (node : ℕ) → node_by_id t row.id ≡ None → row.made_with ≡ None → IsNoFile t node
    → Carries t (changed t (change.PutFilter row node))
unfolding changed
put_carries t row node fresh alone none = record {
  rows = λ n o. record { later = o.row; found = found-longer (λ (r : NodeRecord). r.id == n) t.nodes row o.row o.found; name = refl; kind = refl };
  files = λ n o. child_put t row node n (λ same. (let bad : None ≡ Some o.row = sym fresh ∙ ap (node_by_id t) (sym same) ∙ o.found in cc)) (none n o);
  back = λ later there some. elim (pushed-cases t.nodes row later there) [
    | inl old ↦ record { row = later; there = old; id = refl; name = refl; filename = refl; made_with = refl }
    | inr new ↦ absurd (let bad = subst IsSome (ap (λ (r : NodeRecord). r.made_with) new ∙ alone) some in cc)
  ];
}

pull_carries : (t : RunTable) (filter : ℕ) (row : NodeRecord) → node_by_id t filter ≡ Some row → IsSome (filter_role row.kind) → IsNoFile t filter
    → Carries t (changed t (change.PullFilter filter))
unfolding changed
pull_carries t filter row found is none = record {
  rows = λ n o. record { later = o.row; found = still_found t filter n (not_filter n o) ∙ o.found; name = refl; kind = refl };
  files = λ n o. child_pulled t filter n (none n o);
  back = λ later there some.
      let was = Contains-filter (λ (r : NodeRecord). not (r.id == filter)) t.nodes later there in
      record { row = later; there = was.0; id = refl; name = refl; filename = refl; made_with = refl };
}
  where
    not_filter : (n : ℕ) → IsOwn t n → n ≢ filter
    not_filter n o same = no_own t filter row found is (subst (IsOwn t) same o)

step_carries : (t : RunTable) (c : Change) → IsStep t c → Carries t (changed t c)
unfolding changed
step_carries t (change.UseFile name) h = same_carries t (changed t (change.UseFile name)) refl (λ n o. refl)
step_carries t (change.Unsettle node) h =
    mapped_carries t (changed t (change.Unsettle node)) (node_changed node unsettled) (unsettled_names node) refl (λ n. refl)
step_carries t (change.MakeWritable node) h =
    mapped_carries t (changed t (change.MakeWritable node)) (node_changed node writable) (writable_names node) refl
    (λ n. child_of-refreshed (kinds_of (with_writable node t.nodes)) (Node n) File t.edges)
step_carries t (change.MakeReadOnly node) h =
    mapped_carries t (changed t (change.MakeReadOnly node)) (node_changed node kept_from_writes) (kept_names node) refl
    (λ n. child_of-refreshed (kinds_of (with_read_only node t.nodes)) (Node n) File t.edges)
step_carries t (change.Settle node disk) h =
    mapped_carries t (changed t (change.Settle node disk)) (node_changed node settled) (settled_names node) refl (λ n. refl)
step_carries t (change.Rebase node backing) h =
    same_carries t (changed t (change.Rebase node backing)) refl (λ n o. child_rebased t node backing n)
step_carries t (change.StartJob row) h = same_carries t (changed t (change.StartJob row)) refl (λ n o. refl)
step_carries t (change.EndJob number slot drops) h =
    same_carries t (changed t (change.EndJob number slot drops)) refl (λ n o. child_ended t number slot drops n)
step_carries t (change.UseNode slot what node) h =
    same_carries t (changed t (change.UseNode slot what node)) refl
    (λ n o. child_of-refreshed (kinds_of t.nodes) (Node n) File (with_edge (job_edge slot what node) t.edges)
    ∙ child-kept (Node n) File (job_edge slot what node) t.edges (λ same. cc))
step_carries t (change.PutFilter row node) h = put_carries t row node h.fresh h.alone h.none
step_carries t (change.PullFilter filter) h = pull_carries t filter h.row h.found h.is_filter h.none
step_carries t (change.Move from to but) h =
    same_carries t (changed t (change.Move from to but)) refl (λ n o. child_gone_over t from to but n (h n o))
step_carries t c h = absurd h

pub steps_carry : (changes : List Change) (s : State) → AllSteps s changes → Carries s.table (all_stepped s changes).table
steps_carry [] s h = carries_self s.table
steps_carry (c ∷ changes) s h =
    carries_then s.table (changed s.table c) (all_stepped (stepped s c) changes).table (step_carries s.table c h.0) (steps_carry changes (stepped s c) h.1)

-- what holds between events, behind changes that suit
pub steps_rest : (changes : List Change) (s : State) → AllSteps s changes → AllSuit s changes → StandsAtRest s → StandsAtRest (all_stepped s changes)
steps_rest changes s h suits rests = record {
  stands = all_stand changes s suits rests.stands;
  inline = inline_carried s.table (all_stepped s changes).table rests.stands.table (steps_carry changes s h) rests.inline;
}
