-- The changes of a start suit the state, and what holds between events holds behind them.
use Rattle.std.proofs.Common.{map, ◌≡◌, ◌≢◌, ℕ, Bool, true, false, cond, List, [], ◌∷◌, ◌++◌, refl, sym, ◌∙◌, ap, subst, inl, Option, Some, None}
use Rattle.std.specs.Prelude.{◌==◌, if◌then◌else◌, ◌&&◌, IsSome, nat_le, length, codes}
use Rattle.std.specs.List.{find, Contains, list_all}
use Rattle.std.proofs.lemmas.Bool.{eqb-true}
use Rattle.blk_graph.specs.declared.edge.Edge.{Edge}
use Rattle.blk_graph.specs.declared.edge.Parent.{Parent}
use Rattle.blk_graph.specs.declared.edge.Parent.TheVariants.{Node, Guest, Job}
use Rattle.blk_graph.specs.declared.edge.Role.TheVariants.{Drive, Filtered, Between}
use Rattle.blk_graph.specs.declared.kind.JobUse.{JobUse}
use Rattle.blk_graph.specs.declared.kind.JobUse.TheVariants.{CopyTarget, CommitTop, CommitBetween, CommitBase, StreamTop, StreamBelow}
use Rattle.blk_graph.specs.declared.kind.Kind.{Kind}
use Rattle.blk_graph.specs.declared.kind.Kind.TheVariants as driver
use Rattle.blk_graph.specs.Permissions.{job_role, has_role}
use Rattle.blk_graph.specs.Refreshed.{IsOf}
use Rattle.blk_graph.proofs.Members.{Contains-here, Contains-there, find-Some}
use Rattle.qmp_codec.specs.declared.event.JobKind.{JobKind}
use Rattle.qmp_codec.specs.declared.event.JobKind.TheVariants.{Stream, Commit, Mirror, Backup}
use Rattle.qmp_asks.specs.Naming.{is_name, is_name_byte, begins_with_letter, inline_name}
use Rattle.qmp_rules.specs.declared.change.Change.{Change}
use Rattle.qmp_rules.specs.declared.change.Change.TheVariants as change
use Rattle.qmp_rules.specs.declared.rows.NodeRecord.{NodeRecord}
use Rattle.qmp_rules.specs.declared.rows.JobRecord.{JobRecord}
use Rattle.qmp_rules.specs.declared.rows.FileState.TheVariants.{Used}
use Rattle.qmp_rules.specs.Asks.{is_base, is_file}
use Rattle.qmp_rules.specs.Changes.{changed}
use Rattle.qmp_rules.specs.Chains.{filter_role}
use Rattle.qmp_rules.specs.Edits.{free_id, of_row, device_uses, file_uses, filter_name, filter_row, filter_edits, file_used, base_edits, commit_unsettles, commit_uses, under_top, to_be_written, uses_as, target_edits, uses_target, edits_by_kind, start_edits}
use Rattle.qmp_rules.specs.Table.{RunTable, node_by_id, child, file_state, kinds_of}
use Rattle.flat_machine.specs.State.{State}
use Rattle.flat_machine.specs.Changed.{stepped, all_stepped}
use Rattle.flat_machine.specs.Suiting.{IsPlainNode, SuitsPut, UnsettleSuits, AllSuit}
use Rattle.flat_machine.specs.Wiring.{StandsFor, TableStands}
use Rattle.flat_machine.proofs.Resting.{stepped_table}
use Rattle.flat_machine.proofs.Tables.{file_state-with}
use Rattle.job_edges.specs.Held.{is_job_filter}
use Rattle.job_tables.specs.Rows.{nodes_of_job}
use Rattle.job_tables.specs.Jobs.{JobsStand, EdgesAreDrawn}
use Rattle.job_tables.specs.Starts.{IsToFilter, CommitBegins, BeginsByKind, JobBegins}
use Rattle.job_tables.proofs.Begun.{IsLikeTable, AreBefore, all_before}
use Rattle.job_tables.proofs.Changes.{filter_of}
use Rattle.job_tables.proofs.EndSuits.{suit_append}
use Rattle.job_tables.proofs.JobsRest.{child_is}
use Rattle.job_tables.proofs.Plain.{formats-same, plain_same}
use Rattle.job_tables.proofs.Put.{plain_put}
use Rattle.job_tables.proofs.RowEdges.{in_left, in_right, in_drop, holds_source}
use Rattle.job_tables.proofs.Uses.{used_all}
use Rattle.job_entries.specs.Starts.{LendsAsRead}
use Rattle.job_entries.proofs.Alike.{IsAlike, all_alike, used_before, target_before, commit_before, used_suits}
use Rattle.job_entries.proofs.CommitSuits.{lent_suits}
use Rattle.job_entries.proofs.Starting.{source_plain, filter_list}

-- ---- names that no command can say

hidden_name : (kind : Kind) (id : List ℕ) → is_name (filter_name kind id) ≡ false
hidden_name driver.Mirror id = refl
hidden_name driver.Commit id = refl
hidden_name driver.BeforeWrite id = refl
hidden_name driver.Protocol id = refl
hidden_name driver.Raw id = refl
hidden_name driver.Qcow2 id = refl
hidden_name driver.CopyOnRead id = refl

-- with its colon it is not the name that a `file` node gets by itself
not_and : (a b : Bool) → (a && (b && false)) ≡ false
not_and true true = refl
not_and true false = refl
not_and false b = refl

unnamed : (text : List ℕ) → list_all is_name_byte text ≡ false → is_name text ≡ false
unnamed text none = rw none (not_and (begins_with_letter text) (nat_le (length text) 31))

behind_mark : (text over : List ℕ) → codes "#" ++ text ≡ codes "#" ++ over → text ≡ over
behind_mark text over is = cc

own_filter_name : (kind : Kind) (id over : List ℕ) → is_name over ≡ true → filter_name kind id ≢ inline_name over None
own_filter_name driver.Mirror id over is same = (let rest = behind_mark (codes "mirror:" ++ id) over same in let no = subst (λ text. is_name text ≡ false) rest (unnamed (codes "mirror:" ++ id) refl) in cc)
own_filter_name driver.Commit id over is same = (let rest = behind_mark (codes "commit:" ++ id) over same in let no = subst (λ text. is_name text ≡ false) rest (unnamed (codes "commit:" ++ id) refl) in cc)
own_filter_name driver.BeforeWrite id over is same = (let rest = behind_mark (codes "cbw:" ++ id) over same in let no = subst (λ text. is_name text ≡ false) rest (unnamed (codes "cbw:" ++ id) refl) in cc)
own_filter_name driver.Protocol id over is same = (let rest = behind_mark (codes "cbw:" ++ id) over same in let no = subst (λ text. is_name text ≡ false) rest (unnamed (codes "cbw:" ++ id) refl) in cc)
own_filter_name driver.Raw id over is same = (let rest = behind_mark (codes "cbw:" ++ id) over same in let no = subst (λ text. is_name text ≡ false) rest (unnamed (codes "cbw:" ++ id) refl) in cc)
own_filter_name driver.Qcow2 id over is same = (let rest = behind_mark (codes "cbw:" ++ id) over same in let no = subst (λ text. is_name text ≡ false) rest (unnamed (codes "cbw:" ++ id) refl) in cc)
own_filter_name driver.CopyOnRead id over is same = (let rest = behind_mark (codes "cbw:" ++ id) over same in let no = subst (λ text. is_name text ≡ false) rest (unnamed (codes "cbw:" ++ id) refl) in cc)

filters_so : (kind : Kind) → is_job_filter kind ≡ true → filter_role kind ≡ Some Filtered
filters_so driver.BeforeWrite is = refl
filters_so driver.Mirror is = refl
filters_so driver.Commit is = refl
filters_so driver.Protocol is = absurd cc
filters_so driver.Raw is = absurd cc
filters_so driver.Qcow2 is = absurd cc
filters_so driver.CopyOnRead is = absurd cc

of_job_by : (kind : Kind) → has_role kind Filtered ≡ true → is_job_filter kind ≡ true
of_job_by driver.BeforeWrite is = refl
of_job_by driver.Mirror is = refl
of_job_by driver.Commit is = refl
of_job_by driver.Protocol is = absurd cc
of_job_by driver.Raw is = absurd cc
of_job_by driver.Qcow2 is = absurd cc
of_job_by driver.CopyOnRead is = absurd cc

-- ---- plain nodes stay plain

plain_started : (t : RunTable) (row : JobRecord) (n : ℕ) → IsPlainNode t n → IsPlainNode (changed t (change.StartJob row)) n
unfolding changed
plain_started t row n p = plain_same t (changed t (change.StartJob row)) n refl (formats-same t (changed t (change.StartJob row)) n refl) (λ over file. file) p

plain_used : (t : RunTable) (slot : ℕ) (what : JobUse) (node n : ℕ) → IsPlainNode t n → IsPlainNode (changed t (change.UseNode slot what node)) n
plain_used t slot what node n p =
    let u = used_all (record { what = what; node = node } ∷ []) t slot in
    let now : RunTable = changed t (change.UseNode slot what node) in
    plain_same t now n (ap (find (λ (r : NodeRecord). r.id == n)) u.nodes) (formats-same t now n u.nodes) (λ over file. u.files n over file) p

uses_suit : (slot : ℕ) (what : JobUse) (nodes : List ℕ) (s : State) → ((n : ℕ) → Contains nodes n → IsPlainNode s.table n) → AllSuit s (uses_as slot what nodes)
uses_suit slot what [] s plain = tt
uses_suit slot what (node ∷ nodes) s plain = (
  plain node (Contains-here node nodes),
  uses_suit slot what nodes (stepped s (change.UseNode slot what node))
      (λ n at. plain_used s.table slot what node n (plain n (Contains-there node nodes n at))),
)

-- ---- the target loses its disk, and its file was used

module _ (s : State) (h : TableStands s.table) (target : ℕ) where
  file_is : (row : NodeRecord) → row.kind ≡ driver.Protocol → is_file row ≡ true
  file_is row kind = ap (λ (k : Kind). is_file (record row { kind = k })) kind

  -- a row of the target's id is its row
  same_as : (row r : NodeRecord) → node_by_id s.table target ≡ Some row → Contains s.table.nodes r → r.id ≡ target → r ≡ row
  same_as row r found there id =
      let both : Some r ≡ Some row = sym (h.apart r there) ∙ ap (node_by_id s.table) id ∙ found in
      cc both

  target_suits : AllSuit s (target_edits s.table (Some target))
  unfolding changed
  target_suits = by_row (node_by_id s.table target) refl
    where
      -- of one that is no `file` node nothing is asked
      unused : (found : Option NodeRecord) → node_by_id s.table target ≡ found
          → ((row : NodeRecord) → found ≡ Some row → (name : List ℕ) → StandsFor s.table name row → ⊥) → AllSuit s (change.Unsettle target ∷ [])
      unused found e none = (λ name r over id. absurd (by_found name r over id found e none), tt)
        where
          by_found : (name : List ℕ) (r : NodeRecord) → StandsFor s.table name r → r.id ≡ target → (x : Option NodeRecord) → node_by_id s.table target ≡ x
              → ((row : NodeRecord) → x ≡ Some row → (n : List ℕ) → StandsFor s.table n row → ⊥) → ⊥
          by_found name r over id None is never = let bad : None ≡ Some r = sym is ∙ ap (node_by_id s.table) (sym id) ∙ h.apart r over.there in cc
          by_found name r over id (Some row) is never = never row refl name (subst (StandsFor s.table name) (same_as row r is over.there id) over)

      used_so : (row : NodeRecord) (name : List ℕ) → node_by_id s.table target ≡ Some row → row.filename ≡ Some name
          → UnsettleSuits (changed s.table (change.UseFile name)) target
      used_so row name found named other r over id =
          let same : r ≡ row = same_as row r found over.there id in
          let both : Some name ≡ Some other = sym named ∙ ap (λ (x : NodeRecord). x.filename) (sym same) ∙ over.filename in
          let one : name ≡ other = cc both in
          inl (subst (λ n. file_state (changed s.table (change.UseFile name)) n ≡ Some Used) one (file_state-with name Used s.table.files))

      by_name : (row : NodeRecord) → node_by_id s.table target ≡ Some row → (b : Bool) → is_file row ≡ b → (name : Option (List ℕ)) → row.filename ≡ name
          → AllSuit s (cond b (file_uses name) [] ++ change.Unsettle target ∷ [])
      by_name row found true is None named = unused (Some row) found (λ r same name over.
          let both : row ≡ r = (let x : Some row ≡ Some r = same in cc x) in
          let bad : None ≡ Some name = sym named ∙ ap (λ (x : NodeRecord). x.filename) both ∙ over.filename in cc)
      by_name row found true is (Some name) named = (tt, (used_so row name found named, tt))
      by_name row found false is name named = unused (Some row) found (λ r same file over.
          let both : row ≡ r = (let x : Some row ≡ Some r = same in cc x) in
          let yes : is_file row ≡ true = file_is row (ap (λ (x : NodeRecord). x.kind) both ∙ h.drivers file r over) in cc)

      by_row : (found : Option NodeRecord) → node_by_id s.table target ≡ found → AllSuit s (of_row device_uses found ++ change.Unsettle target ∷ [])
      by_row None e = unused None e (λ row is name over. (let bad : None ≡ Some row = is in cc))
      by_row (Some row) e = by_name row e (is_file row) refl row.filename refl

-- ---- a node that it holds

-- no filter of a job is over it, for that job would hold it
pub no_filter_over : (t : RunTable) → TableStands t → JobsStand t → EdgesAreDrawn t → (row : JobRecord) → JobBegins t row → (held : ℕ) → Contains row.held held
    → (edge : Edge) → Contains t.edges edge → edge.child ≡ held → edge.role ≢ Filtered
no_filter_over t h j d row b held holds edge there at role = by_parent edge.parent refl (d.table edge there)
  where
    no_use : (what : JobUse) → job_role what ≢ Filtered
    no_use CopyTarget is = cc
    no_use CommitTop is = cc
    no_use CommitBetween is = cc
    no_use CommitBase is = cc
    no_use StreamTop is = cc
    no_use StreamBelow is = cc

    over : (f : ℕ) → edge.parent ≡ Node f → (found : Option NodeRecord) → node_by_id t f ≡ found → IsSome found → ⊥
    over f from None e some = cc
    over f from (Some node) e some =
        let here = find-Some (λ (r : NodeRecord). r.id == f) t.nodes node e in
        let from_node : edge.parent ≡ Node node.id = from ∙ ap Node (sym (eqb-true node.id f here.1)) in
        let has = subst (λ r. has_role node.kind r ≡ true) role (h.roles edge node there here.0 from_node) in
        let of = j.filters node here.0 (of_job_by node.kind has) in
        let stands = j.each of.row of.there in
        let filter = filter_of t of.row of.row.kind stands.shape node.id of.filter in
        let leads : edge.child ≡ of.row.source
        = child_is t h j d edge node.id of.row.source Filtered there from_node role (λ bad. (let no : Filtered ≡ Between = bad in cc))
        (subst (λ n. child t n Filtered ≡ Some of.row.source) filter.3 filter.2.over) in
        let same : of.row.source ≡ held = sym leads ∙ at in
        b.holds of.row held of.there holds
        (subst (Contains (nodes_of_job of.row)) same (in_left of.row.held of.row.read of.row.source (holds_source t of.row stands)))

    by_parent : (p : Parent) → edge.parent ≡ p → IsOf (kinds_of t.nodes) edge p → ⊥
    by_parent (Guest g) from of = (let bad : Drive ≡ Filtered = sym (ap (λ (e : Edge). e.role) of.is) ∙ role in cc)
    by_parent (Job slot) from of = no_use of.what (sym (ap (λ (e : Edge). e.role) of.is) ∙ role)
    by_parent (Node f) from of = over f from (node_by_id t f) refl ((h.edges edge there).parent f from)

-- ---- a filter over the source

module _ (s : State) (h : TableStands s.table) (j : JobsStand s.table) (d : EdgesAreDrawn s.table) (row : JobRecord) (b : JobBegins s.table row) where
  abbrev plain : IsPlainNode s.table row.source
  plain = source_plain s row b

  source_held : Contains row.held row.source
  source_held = by_kind row.kind b.shape
    where
      first : (ids : List ℕ) → row.held ≡ row.source ∷ ids → Contains row.held row.source
      first ids is = subst (λ xs. Contains xs row.source) (sym is) (Contains-here row.source ids)

      by_kind : (k : JobKind) → BeginsByKind s.table row k → Contains row.held row.source
      by_kind Stream x = first [] x.held
      by_kind Commit x = first (x.between ++ x.base ∷ []) x.held
      by_kind Mirror x = first (x.copies.target ∷ []) x.copies.held
      by_kind Backup x = first (x.target ∷ []) x.held

  module _ (pre : List Change) (early : AreBefore pre) where
    abbrev ready : State
    ready = all_stepped s pre

    like : IsLikeTable s.table (all_stepped s pre).table
    like = subst (IsLikeTable s.table) (sym (stepped_table pre s)) (all_before pre s.table early)

    alike : IsAlike s.table (all_stepped s pre).table
    alike = subst (IsAlike s.table) (sym (stepped_table pre s)) (all_alike pre s.table early)

    module _ (kind : Kind) (of_job : is_job_filter kind ≡ true) (f : IsToFilter s.table row) where
      abbrev new : NodeRecord
      new = filter_row s.table kind row.id plain.row

      abbrev put : Change
      put = change.PutFilter (filter_row s.table kind row.id plain.row) plain.row.id

      source_id : plain.row.id ≡ row.source
      source_id = eqb-true plain.row.id row.source (find-Some (λ (r : NodeRecord). r.id == row.source) s.table.nodes plain.row plain.there).1

      under : IsPlainNode ready.table plain.row.id
      under = subst (IsPlainNode ready.table) (sym source_id) (like.plain row.source plain)

      may_write : new.read_only ≡ false → under.row.read_only ≡ false
      may_write writes =
          let after = alike.rows row.source plain.row plain.there in
          let both : Some after.later ≡ Some under.row = sym after.found ∙ ap (node_by_id ready.table) (sym source_id) ∙ under.there in
          let same : after.later ≡ under.row = cc both in
          subst (λ (r : NodeRecord). r.read_only ≡ false) same (after.writes writes)

      put_suits : SuitsPut ready.table new plain.row.id
      put_suits = record {
        fresh = like.absent (free_id s.table) f.fresh;
        own_name = λ alone over is. own_filter_name kind row.id over is;
        hidden = hidden_name kind row.id;
        filter = filters_so kind of_job;
        filename = refl;
        under = under;
        writable = may_write;
        single = λ edge there at role.
            let was = alike.edges edge there in
            no_filter_over s.table h j d row b row.source source_held was.edge was.there (was.same.child ∙ at ∙ source_id) (was.same.role ∙ role);
      }

      -- a node that the job uses is plain by then
      plain_behind : (n : ℕ) → IsPlainNode s.table n → IsPlainNode (stepped (stepped ready put) (change.StartJob row)).table n
      plain_behind n p =
          plain_started (changed ready.table put) row n
          (plain_put ready.table new plain.row.id (like.absent (free_id s.table) f.fresh) (like.ends h.edges) n (like.plain n p))

  module _ (target : ℕ) (held : Contains (nodes_of_job row) target) (kind : Kind) (of_job : is_job_filter kind ≡ true) (f : IsToFilter s.table row) where
    abbrev lost : List Change
    lost = target_edits s.table (Some target)

    copy_suits : AllSuit s (target_edits s.table (Some target) ++ filter_edits s.table kind row ++ change.StartJob row ∷ uses_target row (Some target))
    copy_suits = subst (AllSuit s) (sym (filter_list s.table row kind plain lost (change.StartJob row ∷ uses_target row (Some target))))
        (suit_append lost (put lost early kind of_job f ∷ change.StartJob row ∷ uses_target row (Some target)) s (target_suits s h target)
        (put_suits lost early kind of_job f, (tt, (plain_behind lost early kind of_job f target (b.plain target held), tt))))
      where
        early : AreBefore lost
        early = target_before s.table (Some target)

  -- ---- each kind of job

  commit_suits : row.kind ≡ Commit → (x : CommitBegins s.table row) → row.made_writable ≡ to_be_written s.table row.target → AllSuit s (edits_by_kind s.table row Commit)
  commit_suits is x lends =
      subst (AllSuit s) (sym (filter_list s.table row driver.Commit plain first behind))
      (suit_append first (put first early driver.Commit refl x.filter ∷ behind) s (lent_suits s h row x (b.plain x.base base_held) lends)
      (put_suits first early driver.Commit refl x.filter, (tt, (top row.source plain, commit_uses_suit (under_top row) (stepped started (change.UseNode row.slot CommitTop row.source)) below))))
    where
      first : List Change
      first = file_used s.table row.target ++ commit_unsettles s.table row ++ base_edits s.table row

      early : AreBefore (file_used s.table row.target ++ commit_unsettles s.table row ++ base_edits s.table row)
      early = commit_before s.table row

      behind : List Change
      behind = change.StartJob row ∷ change.UseNode row.slot CommitTop row.source ∷ commit_uses row

      started : State
      started = stepped (stepped (all_stepped s (file_used s.table row.target ++ commit_unsettles s.table row ++ base_edits s.table row))
          (change.PutFilter (filter_row s.table driver.Commit row.id plain.row) plain.row.id)) (change.StartJob row)

      top : (n : ℕ) → IsPlainNode s.table n → IsPlainNode started.table n
      top n p = plain_behind (file_used s.table row.target ++ commit_unsettles s.table row ++ base_edits s.table row) (commit_before s.table row) driver.Commit refl x.filter n p

      base_held : Contains (nodes_of_job row) x.base
      base_held = in_left row.held row.read x.base
          (subst (λ ids. Contains ids x.base) (sym x.held)
          (Contains-there row.source (x.between ++ x.base ∷ []) x.base (in_right x.between (x.base ∷ []) x.base (Contains-here x.base []))))

      below : (n : ℕ) → Contains (under_top row) n → IsPlainNode (stepped started (change.UseNode row.slot CommitTop row.source)).table n
      below n at =
          plain_used started.table row.slot CommitTop row.source n
          (top n (b.plain n (in_left row.held row.read n (in_drop row.held n at))))

      commit_uses_suit : (nodes : List ℕ) (v : State) → ((n : ℕ) → Contains nodes n → IsPlainNode v.table n)
          → AllSuit v (map (λ id. change.UseNode row.slot (if is_base row.target id then CommitBase else CommitBetween) id) nodes)
      commit_uses_suit [] v plains = tt
      commit_uses_suit (node ∷ nodes) v plains =
          let what : JobUse = if is_base row.target node then CommitBase else CommitBetween in (
            plains node (Contains-here node nodes),
            commit_uses_suit nodes (stepped v (change.UseNode row.slot what node))
                (λ n there. plain_used v.table row.slot what node n (plains n (Contains-there node nodes n there))),
          )

  stream_suits : AllSuit s (edits_by_kind s.table row Stream)
  stream_suits =
      suit_append used (change.StartJob row ∷ change.UseNode row.slot StreamTop row.source ∷ uses_as row.slot StreamBelow row.read) s (used_suits s row.target)
      (tt, (begun row.source plain, uses_suit row.slot StreamBelow row.read (stepped started (change.UseNode row.slot StreamTop row.source)) below))
    where
      used : List Change
      used = file_used s.table row.target

      started : State
      started = stepped (all_stepped s (file_used s.table row.target)) (change.StartJob row)

      begun : (n : ℕ) → IsPlainNode s.table n → IsPlainNode started.table n
      begun n p = plain_started (all_stepped s (file_used s.table row.target)).table row n ((like (file_used s.table row.target) (used_before s.table row.target)).plain n p)

      below : (n : ℕ) → Contains row.read n → IsPlainNode (stepped started (change.UseNode row.slot StreamTop row.source)).table n
      below n at = plain_used started.table row.slot StreamTop row.source n (begun n (b.plain n (in_right row.held row.read n at)))

  pub start_suits : LendsAsRead s.table row row.kind → AllSuit s (start_edits s.table row)
  unfolding start_edits
  start_suits lends = by_kind row.kind refl b.shape
    where
      second : (target : ℕ) → row.held ≡ row.source ∷ target ∷ [] → Contains (nodes_of_job row) target
      second target is = in_left row.held row.read target
          (subst (λ ids. Contains ids target) (sym is) (Contains-there row.source (target ∷ []) target (Contains-here target [])))

      by_kind : (k : JobKind) → row.kind ≡ k → BeginsByKind s.table row k → AllSuit s (edits_by_kind s.table row k)
      by_kind Stream is x = stream_suits
      by_kind Commit is x = commit_suits is x (subst (LendsAsRead s.table row) is lends)
      by_kind Mirror is x =
          subst (λ target. AllSuit s (target_edits s.table target ++ filter_edits s.table driver.Mirror row ++ change.StartJob row ∷ uses_target row target)) (sym x.copies.is_target)
          (copy_suits x.copies.target (second x.copies.target x.copies.held) driver.Mirror refl x.copies.filter)
      by_kind Backup is x =
          subst (λ target. AllSuit s (target_edits s.table target ++ filter_edits s.table driver.BeforeWrite row ++ change.StartJob row ∷ uses_target row target)) (sym x.is_target)
          (copy_suits x.target (second x.target x.held) driver.BeforeWrite refl x.filter)
