-- What the changes of an end keep of nodes that are no filters: they stay with their files, and bare ones stay so.
use Rattle.std.proofs.Common.{◌≡◌, ◌≢◌, ◌⊎◌, ℕ, Bool, true, false, cond, List, refl, sym, ◌∙◌, ap, subst, inl, inr, Option, Some, None, option_map}
use Rattle.std.specs.Prelude.{◌==◌, not}
use Rattle.std.specs.List.{Contains}
use Rattle.std.proofs.lemmas.Bool.{eqb-true}
use Rattle.blk_graph.specs.declared.edge.Edge.{Edge}
use Rattle.blk_graph.specs.declared.edge.Parent.{Parent}
use Rattle.blk_graph.specs.declared.edge.Parent.TheVariants.{Node, Job}
use Rattle.blk_graph.specs.declared.edge.Role.{Role}
use Rattle.blk_graph.specs.declared.edge.Role.TheVariants.{File, Filtered}
use Rattle.blk_graph.specs.Edges.{same_parent}
use Rattle.blk_graph.specs.Edits.{child_of, without_parent}
use Rattle.blk_graph.specs.Paths.{Reaches}
use Rattle.blk_graph.specs.Permissions.{has_role}
use Rattle.blk_graph.specs.Refreshed.{refreshed}
use Rattle.blk_graph.proofs.ChildLemmas.{child-without}
use Rattle.blk_graph.proofs.Members.{find-Some, Contains-filter}
use Rattle.blk_graph.proofs.RefreshLemmas.{child_of-refreshed}
use Rattle.qmp_rules.specs.declared.change.Change.TheVariants as change
use Rattle.qmp_rules.specs.declared.rows.NodeRecord.{NodeRecord}
use Rattle.qmp_rules.specs.Chains.{filter_role}
use Rattle.qmp_rules.specs.Changes.{changed}
use Rattle.qmp_rules.specs.Table.{RunTable, node_by_id, child, kinds_of}
use Rattle.flat_machine.specs.Suiting.{IsPlainNode, SuitsMove, SuitsPull, SuitsRebase}
use Rattle.flat_machine.specs.Wiring.{LeadsToFile, TableStands}
use Rattle.flat_machine.proofs.Tables.{refreshed-old}
use Rattle.flat_machine.proofs.WritingKept.{role_edge}
use Rattle.flat_machine.proofs.Leading.{Leads, stays_put, was_file}
use Rattle.flat_machine.proofs.FilterPull as gone
use Rattle.flat_machine.proofs.Backed.{bare_edges, bare_leads, put_edges, put_leads, unled}
use Rattle.flat_machine.proofs.MovedTables.{led_by, moved_edges, moved_leads}
use Rattle.job_tables.specs.Ends.{IsBare}
use Rattle.job_tables.proofs.NodeKinds.{still_found}

-- plain nodes stay, with their files
pub record Keeps (t now : RunTable) : Type 0 where
  pub rows : (row : NodeRecord) → Contains now.nodes row → Contains t.nodes row
  pub found : (n : ℕ) → IsPlainNode t n → node_by_id now n ≡ node_by_id t n
  pub plain : (n : ℕ) → IsPlainNode t n → IsPlainNode now n
  pub files : (n file : ℕ) → IsPlainNode t n → child t n File ≡ Some file → child now n File ≡ Some file
  pub bare : (n : ℕ) → IsPlainNode t n → IsBare t n → IsBare now n

pub keeps_then : (a b c : RunTable) → Keeps a b → Keeps b c → Keeps a c
keeps_then a b c first next = record {
  rows = λ row there. first.rows row (next.rows row there);
  found = λ n p. next.found n (first.plain n p) ∙ first.found n p;
  plain = λ n p. next.plain n (first.plain n p);
  files = λ n file p is. next.files n file (first.plain n p) (first.files n file p is);
  bare = λ n p bare. next.bare n (first.plain n p) (first.bare n p bare);
}

-- a node stays plain where format nodes have the files that they had
plain_by : (t now : RunTable) (n : ℕ) → node_by_id now n ≡ node_by_id t n
    → ((over under : NodeRecord) → LeadsToFile now over under → filter_role over.kind ≡ None → LeadsToFile t over under) → IsPlainNode t n → IsPlainNode now n
plain_by t now n same files p = record {
  row = p.row;
  there = same ∙ p.there;
  own = p.own;
  free = λ under over at some f own. p.free under over (sym same ∙ at) some (files over under f own) own;
}

-- ---- a job is over

module _ (t : RunTable) (number slot : ℕ) (drops : Bool) where
  abbrev left : List Edge
  left = without_parent (Job slot) t.edges

  -- its edges were there
  pub over_was : (e : Edge) → Contains (refreshed (kinds_of t.nodes) left) e
      → (x : Edge) × Contains t.edges x × (x.parent ≡ e.parent) × (x.role ≡ e.role) × (x.child ≡ e.child)
  over_was e there =
      let like = refreshed-old (kinds_of t.nodes) left e there in
      (like.edge, (Contains-filter (λ x. not (same_parent x.parent (Job slot))) t.edges like.edge like.there).0, like.same.parent, like.same.role, like.same.child)

  pub over_child : (n : ℕ) (role : Role) → child_of (Node n) role (refreshed (kinds_of t.nodes) left) ≡ child t n role
  over_child n role = child_of-refreshed (kinds_of t.nodes) (Node n) role left ∙ child-without (Job slot) (Node n) role t.edges (λ same. cc)

  pub over_keeps : Keeps t (changed t (change.EndJob number slot drops))
  unfolding changed
  over_keeps = record {
    rows = λ row there. there;
    found = λ n p. refl;
    plain = λ n p. plain_by t (changed t (change.EndJob number slot drops)) n refl (λ above under f own.
        let was = over_was f.edge f.there in
        record {
          over_there = f.over_there;
          under_there = f.under_there;
          edge = was.0;
          there = was.1;
          parent = was.2 ∙ f.parent;
          role = was.3 ∙ f.role;
          child = was.4 ∙ f.child;
        }) p;
    files = λ n file p is. over_child n File ∙ is;
    bare = λ n p bare e there at.
        let was = over_was e there in
        let of = bare was.0 was.1 (was.4 ∙ at) in
        (λ role. of.0 (was.3 ∙ role), λ role. of.1 (was.3 ∙ role));
  }

-- ---- edges that lead elsewhere

module _ (t : RunTable) (es : List Edge) (lead : Parent → ℕ → ℕ) (l : Leads t es lead) (h : TableStands t) where
  abbrev led : RunTable
  led = record t { edges = es }

  pub led_file : (n file : ℕ) → IsPlainNode t n → child t n File ≡ Some file → child led n File ≡ Some file
  led_file n file p is =
      let e = role_edge (Node n) File t.edges file is in
      let here = find-Some (λ r. r.id == n) t.nodes p.row p.there in
      let from = e.from ∙ ap Node (sym (eqb-true p.row.id n here.1)) in
      let has = h.roles e.edge p.row e.there here.0 from in
      let same = stays_put t es lead l h p.row e.edge here.0 e.there from e.role_is p.own in
      l.children n p.row File p.there (subst (λ r. has_role p.row.kind r ≡ true) e.role_is has) (λ same. cc) (λ same. cc)
      ∙ ap (option_map (lead (Node n))) is ∙ ap (λ (c : ℕ). Some c) (ap (λ q. lead q file) (sym e.from) ∙ ap (lead e.edge.parent) (sym e.to) ∙ same ∙ e.to)

  pub led_plain : (n : ℕ) → IsPlainNode t n → IsPlainNode led n
  led_plain n p = plain_by t led n refl (λ above under f own. was_file t es lead l h above under f own) p

  -- a bare node stays so where no edge is sent to it
  pub led_bare : (n : ℕ) → ((p : Parent) (c : ℕ) → (lead p c ≡ c) ⊎ (lead p c ≢ n)) → IsBare t n → IsBare led n
  led_bare n apart bare e there at = elim (l.old e there) [
    | inr new ↦ (λ role. (let bad = sym new.role ∙ role in cc), λ role. (let bad = sym new.role ∙ role in cc))
    | inl o ↦ elim (apart o.edge.parent o.edge.child) [
      | inl same ↦
          let of = bare o.edge o.there (sym same ∙ sym o.child ∙ at) in
          (λ role. of.0 (o.role ∙ role), λ role. of.1 (o.role ∙ role))
      | inr other ↦ absurd (other (sym o.child ∙ at))
    ]
  ]

-- ---- a filter goes

module _ (t : RunTable) (filter : ℕ) (suits : SuitsPull t filter) (h : TableStands t) where
  abbrev loose : RunTable
  loose = gone.loose t filter suits h

  abbrev loosened : List Edge
  loosened = gone.loose_edges t filter suits h

  -- its edges are those without the filter's
  pub pulled_was : (e : Edge) → Contains (gone.now t filter suits h).edges e
      → (x : Edge) × Contains loosened x × (x.parent ≡ e.parent) × (x.role ≡ e.role) × (x.child ≡ e.child)
  pulled_was e there =
      let like = refreshed-old (gone.kinds t filter suits h) (without_parent (Node filter) loosened) e
      (subst (λ es. Contains es e) (gone.pulled_edges t filter suits h) there) in (
        like.edge,
        (Contains-filter (λ x. not (same_parent x.parent (Node filter))) loosened like.edge like.there).0,
        like.same.parent,
        like.same.role,
        like.same.child,
      )

  -- where an edge leads, it led before
  pub pulled_leads_on : (a : ℕ) (e : Edge) → Contains (gone.now t filter suits h).edges e → e.parent ≡ Node a → Reaches t.edges a e.child
  pulled_leads_on a e there from =
      let was = pulled_was e there in
      subst (Reaches t.edges a) was.4 (gone.loose_leads_on t filter suits h a was.0 was.1 (was.2 ∙ from))

  -- a plain node is no filter
  pub plain_other : (n : ℕ) → IsPlainNode t n → n ≢ filter
  plain_other n p same =
      let at = subst (λ m. node_by_id t m ≡ Some p.row) same p.there in
      let found = suits.there in
      let rows : p.row ≡ suits.row = cc in
      let role = ap (λ r. filter_role r.kind) rows ∙ suits.role in
      let own = p.own in
      cc

  pub pulled_child : (n : ℕ) (role : Role) → IsPlainNode t n → child (gone.now t filter suits h) n role ≡ child loose n role
  pulled_child n role p =
      ap (child_of (Node n) role) (gone.pulled_edges t filter suits h)
      ∙ child_of-refreshed (gone.kinds t filter suits h) (Node n) role (without_parent (Node filter) loosened)
      ∙ child-without (Node filter) (Node n) role loosened (λ same. plain_other n p (let both : filter ≡ n = cc in sym both))

  -- the node below it isn't bare
  bare_other : (n : ℕ) → IsBare t n → n ≢ suits.below
  bare_other n bare same =
      let e = role_edge (Node filter) Filtered t.edges suits.below suits.over in
      (bare e.edge e.there (e.to ∙ sym same)).1 e.role_is

  pub pull_keeps : Keeps t (changed t (change.PullFilter filter))
  unfolding changed
  pull_keeps = record {
    rows = λ row there. (Contains-filter (λ r. not (r.id == filter)) t.nodes row there).0;
    found = λ n p. still_found t filter n (plain_other n p);
    plain = λ n p. plain_by t (changed t (change.PullFilter filter)) n (still_found t filter n (plain_other n p)) (λ above under f own.
        let was = pulled_was f.edge f.there in
        was_file t loosened (gone.lead t filter suits h) (gone.loose_leads t filter suits h) h above under
        (record {
          over_there = (Contains-filter (λ r. not (r.id == filter)) t.nodes above f.over_there).0;
          under_there = (Contains-filter (λ r. not (r.id == filter)) t.nodes under f.under_there).0;
          edge = was.0;
          there = was.1;
          parent = was.2 ∙ f.parent;
          role = was.3 ∙ f.role;
          child = was.4 ∙ f.child;
        }) own) p;
    files = λ n file p is. pulled_child n File p ∙ led_file t loosened (gone.lead t filter suits h) (gone.loose_leads t filter suits h) h n file p is;
    bare = λ n p bare e there at.
        let was = pulled_was e there in
        let of = led_bare t loosened (gone.lead t filter suits h) (gone.loose_leads t filter suits h) h n
        (λ q c. elim (gone.sent t filter suits h q c) [
          | inl same ↦ inl same
          | inr sent ↦ by_led n (bare_other n bare) (c == filter)
        ]) bare was.0 was.1 (was.4 ∙ at) in
        (λ role. of.0 (was.3 ∙ role), λ role. of.1 (was.3 ∙ role));
  }
    where
      by_led : {c : ℕ} (n : ℕ) → n ≢ suits.below → (b : Bool) → (cond b suits.below c ≡ c) ⊎ (cond b suits.below c ≢ n)
      by_led n other true = inr (λ same. other (sym same))
      by_led n other false = inl refl

-- ---- another backing node, or none

pub rebase_keeps : (t : RunTable) (node : ℕ) (backing : Option ℕ) → SuitsRebase t node backing → TableStands t → Keeps t (changed t (change.Rebase node backing))
unfolding changed
rebase_keeps t node backing suits h = by_backing backing suits
  where
    by_leads : (es : List Edge) → Leads t es unled → Keeps t (record t { edges = es })
    by_leads es l = record {
      rows = λ row there. there;
      found = λ n p. refl;
      plain = led_plain t es unled l h;
      files = led_file t es unled l h;
      bare = λ n p bare. led_bare t es unled l h n (λ q c. inl refl) bare;
    }

    by_backing : (backing : Option ℕ) → SuitsRebase t node backing → Keeps t (changed t (change.Rebase node backing))
    by_backing None suits = by_leads (bare_edges t node h) (bare_leads t node h)
    by_backing (Some base) suits = by_leads (put_edges t node base suits h) (put_leads t node base suits h)

-- ---- parents that go over

pub move_plain : (t : RunTable) (from to but : ℕ) (suits : SuitsMove t from to but) → TableStands t → (n : ℕ) → IsPlainNode t n
    → IsPlainNode (changed t (change.Move from to but)) n
unfolding changed
move_plain t from to but suits h = led_plain t (moved_edges t from to but suits h) (led_by from to but) (moved_leads t from to but suits h) h
