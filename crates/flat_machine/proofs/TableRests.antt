-- Between events tables stay what they are: each change keeps what it is to keep, and a command's changes the rest together.
use Rattle.std.proofs.Common.{◌≡◌, ◌≢◌, ◌⊎◌, ℕ, Bool, true, false, List, [], ◌∷◌, ◌++◌, refl, sym, ap, subst, ◌∙◌, inl, inr, Option, Some, None, option_map}
use Rattle.std.specs.Prelude.{◌==◌, ◌&&◌, ◌||◌, not, if◌then◌else◌, option_and_then, IsSome, unwrap_or}
use Rattle.std.specs.List.{find, Contains}
use Rattle.std.proofs.lemmas.Bool.{eqb-true, eq-eqb, cases_eq}
use Rattle.blk_graph.specs.declared.edge.Edge.{Edge}
use Rattle.blk_graph.specs.declared.edge.Parent.TheVariants.{Node}
use Rattle.blk_graph.specs.declared.edge.Role.TheVariants.{File, Backing}
use Rattle.blk_graph.specs.declared.kind.Kind.TheVariants.{Protocol}
use Rattle.blk_graph.specs.declared.kind.NodeKind.{NodeKind}
use Rattle.blk_graph.specs.Edges.{same_parent}
use Rattle.blk_graph.specs.Edits.{with_edge}
use Rattle.blk_graph.specs.Permissions.{node_edge, has_role}
use Rattle.blk_graph.proofs.Members.{find-Some}
use Rattle.blk_graph.proofs.EditLemmas.{Contains-with_edge_new}
use Rattle.qmp_codec.specs.Commands.{Cmd, SeenSources}
use Rattle.qmp_codec.specs.declared.command.Command.TheVariants as command
use Rattle.qmp_codec.specs.declared.nodes.FileRef.{FileRef}
use Rattle.qmp_codec.specs.declared.nodes.FileRef.TheVariants as file_ref
use Rattle.qmp_codec.specs.declared.nodes.AddRaw.{AddRaw}
use Rattle.qmp_codec.specs.declared.nodes.Added.{Added}
use Rattle.qmp_codec.specs.declared.nodes.Added.TheVariants as added
use Rattle.qmp_codec.specs.declared.nodes.BlockdevAdd.{BlockdevAdd}
use Rattle.qmp_codec.specs.declared.nodes.Created.{Created}
use Rattle.qmp_codec.specs.declared.nodes.Created.TheVariants as created
use Rattle.qmp_codec.specs.declared.nodes.DeviceAdd.{DeviceAdd}
use Rattle.qmp_rules.specs.declared.change.Change.{Change}
use Rattle.qmp_rules.specs.declared.change.Change.TheVariants as change
use Rattle.qmp_rules.specs.declared.rows.NodeRecord.{NodeRecord}
use Rattle.qmp_rules.specs.declared.rows.AskedEnd.{AskedEnd}
use Rattle.qmp_rules.specs.declared.rows.AskedEnd.TheVariants as asked
use Rattle.qmp_rules.specs.declared.rows.DeviceRow.{DeviceRow}
use Rattle.qmp_rules.specs.declared.rows.JobRecord.{JobRecord}
use Rattle.qmp_rules.specs.declared.told.Told.{Told}
use Rattle.qmp_rules.specs.Table.{RunTable, device_named, job_named, node_by_id, node_named, id_named, child, kinds_of}
use Rattle.qmp_rules.specs.Changes.{changed, all_changed, node_changed, unsettled, lost_with, with_unsettled, without_record, with_format_edges}
use Rattle.qmp_rules.specs.Edits.{file_of_node, next_free_id, raw_record, image_row, length_told, goes_with, goes_with_node, with_inline, file_uses, file_under, del_edits, added_edits, raw_edits, qcow2_edits, add_edits, inline_row, edits_of, created_change, spoiled, device_add_edits, new_device, device_uses, of_row, bitmap_add_edits, bitmap_remove_edits, bitmap_clear_edits, bitmap_turn_edits, merges, merge_edits, asked_by_cancel}
use Rattle.qmp_asks.specs.Values.{flag_or_false}
use Rattle.qmp_asks.specs.Naming.{inline_name}
use Rattle.qmp_asks.specs.NodeAsks.{add_asks, del_asks, device_add_asks, is_read_only, backing_name}
use Rattle.qmp_rules.specs.Asks.{first_unmet_ask, is_file}
use Rattle.qmp_asks.specs.CommandAsks.{asks_of, negotiates}
use Rattle.qmp_rules.specs.Answers.{unbuilt, out_of_turn, refusal_to, command_edits}
use Rattle.qmp_rules.specs.Chains.{filter_role, written_under, unsettled_over}
use Rattle.flat_machine.specs.Replies.{begins_job}
use Rattle.flat_machine.specs.Wiring.{LeadsToFile, IsInline, InlineAreUnder, TableStands, TableAtRest}
use Rattle.flat_machine.specs.Suiting.{IsThere, IsAlone, TableSuits, AllTableSuit}
use Rattle.flat_machine.proofs.Fresh.{no-found}
use Rattle.flat_machine.proofs.OwnNames.{goes-named}
use Rattle.flat_machine.proofs.Tables.{HasLike, pushed-new, refreshed-new, with_edge-keeps}
use Rattle.flat_machine.proofs.Rows.{SameRows, rows-same, rows-mapped, like_lost, like_unsettled, like_over}
use Rattle.flat_machine.proofs.Wired.{OldRow, Grows, NoRow, NoEdge, at_with, with_at}
use Rattle.flat_machine.proofs.TablesKept.{IsOther, rows_grow, rows_table, file_grow, file_table, IsNewEdge, format_grow, format_table, is_under, IsNewFilterEdge, filter_grow, filter_table, removed_grow, removed_table, IsDriveEdge, device_grow, device_table}
use Rattle.flat_machine.proofs.DevicesGone.{gone_grow, gone_table}
use Rattle.flat_machine.proofs.JobEdges.{over_table, use_table}
use Rattle.flat_machine.proofs.Lent.{settled_stands, writable_stands, kept_stands}
use Rattle.flat_machine.proofs.Backed.{attached_table, rebased_table}
use Rattle.flat_machine.proofs.MovedTables.{moved_table}
use Rattle.flat_machine.proofs.FilterPut.{put_table}
use Rattle.flat_machine.proofs.FilterPull.{pull_table}
use Rattle.flat_machine.proofs.Asked.{none-both, NoneHolds, none-holds, found-named, lone-node}
use Rattle.flat_machine.proofs.Accepted.{no_edge}
use Rattle.flat_machine.proofs.TableSuited.{named-row, add-table, device-table}
use Rattle.flat_machine.proofs.Snapshots.{snapshot_rests}

-- ---- each change

pub table_keeps : (t : RunTable) (c : Change) → TableSuits t c → TableStands t → TableStands (changed t c)
unfolding changed
table_keeps t change.Negotiate suits h = rows_table t (changed t change.Negotiate) (rows-same t (changed t change.Negotiate) refl h.apart) refl refl refl h
table_keeps t (change.KeepId id) suits h = rows_table t (changed t (change.KeepId id)) (rows-same t (changed t (change.KeepId id)) refl h.apart) refl refl refl h
table_keeps t (change.DropId id) suits h = rows_table t (changed t (change.DropId id)) (rows-same t (changed t (change.DropId id)) refl h.apart) refl refl refl h
table_keeps t (change.MakeFile name size) suits h =
    rows_table t (changed t (change.MakeFile name size)) (rows-same t (changed t (change.MakeFile name size)) refl h.apart) refl refl refl h
table_keeps t (change.FormatFile node name size backing_file backing_fmt) suits h =
    let now : RunTable = changed t (change.FormatFile node name size backing_file backing_fmt) in
    rows_table t now (rows-mapped t now (node_changed node unsettled) (like_unsettled node) refl h.apart) refl refl refl h
table_keeps t (change.SpoilFile name) suits h =
    let now : RunTable = changed t (change.SpoilFile name) in
    rows_table t now (rows-mapped t now (lost_with name) (like_lost name) refl h.apart) refl refl refl h
table_keeps t (change.UseFile name) suits h = rows_table t (changed t (change.UseFile name)) (rows-same t (changed t (change.UseFile name)) refl h.apart) refl refl refl h
table_keeps t (change.AddFile row) suits h =
    file_table t (changed t (change.AddFile row)) row suits refl (kinds_of (t.nodes ++ row ∷ [])) refl h refl refl
table_keeps t (change.AddFormat row file backing) suits h =
    format_table t (changed t (change.AddFormat row file backing)) row file backing suits refl (kinds_of (with_unsettled file t.nodes ++ row ∷ [])) refl h refl refl
table_keeps t (change.AddFilter row child) suits h =
    filter_table t (changed t (change.AddFilter row child)) row child suits refl (kinds_of (t.nodes ++ row ∷ [])) refl h refl refl
table_keeps t (change.RemoveNode node) suits h =
    removed_table t (changed t (change.RemoveNode node)) node suits refl (kinds_of (without_record node t.nodes)) refl h refl refl
table_keeps t (change.AddDevice device node) suits h =
    device_table t (changed t (change.AddDevice device node)) device node suits refl (kinds_of t.nodes) refl h refl refl
table_keeps t (change.Unsettle id) suits h =
    let now : RunTable = changed t (change.Unsettle id) in
    rows_table t now (rows-mapped t now (node_changed id unsettled) (like_unsettled id) refl h.apart) refl refl refl h
table_keeps t (change.MakeWritable id) suits h = writable_stands t h id suits
table_keeps t (change.PutFilter row node) suits h = put_table t row node suits h
table_keeps t (change.UseNode slot what node) suits h =
    use_table t (changed t (change.UseNode slot what node)) slot what node suits refl (kinds_of t.nodes) refl h refl refl
table_keeps t (change.StartJob row) suits h =
    rows_table t (changed t (change.StartJob row)) (rows-same t (changed t (change.StartJob row)) refl h.apart) refl refl refl h
table_keeps t (change.AskJob number asked) suits h =
    rows_table t (changed t (change.AskJob number asked)) (rows-same t (changed t (change.AskJob number asked)) refl h.apart) refl refl refl h
table_keeps t (change.ReadyJob number) suits h =
    rows_table t (changed t (change.ReadyJob number)) (rows-same t (changed t (change.ReadyJob number)) refl h.apart) refl refl refl h
table_keeps t (change.EndJob number slot drops) suits h =
    over_table t (changed t (change.EndJob number slot drops)) slot refl (kinds_of t.nodes) refl h refl refl
table_keeps t (change.PullFilter filter) suits h = pull_table t filter suits h
table_keeps t (change.Rebase node backing) suits h = rebased_table t node backing suits h
table_keeps t (change.Settle node disk) suits h = settled_stands t h node disk suits
table_keeps t (change.MakeReadOnly id) suits h = kept_stands t h id suits
table_keeps t (change.RemoveDevice number) suits h =
    gone_table t (changed t (change.RemoveDevice number)) number refl (kinds_of t.nodes) refl h refl refl
table_keeps t (change.Attach overlay node) suits h = attached_table t overlay node suits h
table_keeps t (change.Move from to but) suits h = moved_table t from to but suits h
table_keeps t (change.AddBitmap row) suits h =
    rows_table t (changed t (change.AddBitmap row)) (rows-same t (changed t (change.AddBitmap row)) refl h.apart) refl refl refl h
table_keeps t (change.RemoveBitmap node name) suits h =
    rows_table t (changed t (change.RemoveBitmap node name)) (rows-same t (changed t (change.RemoveBitmap node name)) refl h.apart) refl refl refl h
table_keeps t (change.TurnBitmap node name on) suits h =
    rows_table t (changed t (change.TurnBitmap node name on)) (rows-same t (changed t (change.TurnBitmap node name on)) refl h.apart) refl refl refl h
table_keeps t (change.ClearBitmap node name) suits h = h
table_keeps t (change.MergeBitmap node name source_node source) suits h = h

pub all_keep : (changes : List Change) (t : RunTable) → AllTableSuit t changes → TableStands t → TableStands (all_changed t changes)
all_keep [] t suits h = h
all_keep (c ∷ changes) t suits h = all_keep changes (changed t c) suits.1 (table_keeps t c suits.0 h)

-- ---- nodes that were made with others

-- so it is with all but these
abbrev pub InlineBut : RunTable → (ℕ → Type 0) → Type 0
InlineBut t Q = (row : NodeRecord) (over : ℕ) → Contains t.nodes row → row.made_with ≡ Some over → (Q row.id → ⊥) → IsInline t row over

module _ (t now : RunTable) (P : ℕ → Type 0) (IsNewRow : NodeRecord → Type 0) (IsNewEdge : Edge → Type 0)
    (g : Grows t now P IsNewRow IsNewEdge) (Q : ℕ → Type 0) where
  pub inline_grown : ((row : NodeRecord) (over : ℕ) → IsNewRow row → row.made_with ≡ Some over → Q row.id)
      → ((row : NodeRecord) (over : ℕ) → Contains t.nodes row → P row.id → row.made_with ≡ Some over → (Q row.id → ⊥) → P over)
      → ((row : NodeRecord) (over : ℕ) → Contains t.nodes row → P row.id → row.made_with ≡ Some over → (Q row.id → ⊥) → IsInline t row over)
      → InlineBut now Q
  inline_grown made stays h row over there is other = elim (g.rows row there) [
    | inr is_new ↦ absurd (other (made row over is_new is))
    | inl old ↦ by_old old
  ]
    where
      by_old : OldRow t P row → IsInline now row over
      by_old old =
          let was_made : old.row.made_with ≡ Some over = sym old.like.made_with ∙ is in
          let apart : Q old.row.id → ⊥ = λ q. other (subst Q (sym old.like.id) q) in
          let k = h old.row over old.there old.kept was_made apart in
          let stays_over = stays old.row over old.there old.kept was_made apart in
          let to = g.keeps k.edge over k.there k.parent stays_over in
          let both = g.stays over stays_over in
          let was : old.row.name ≡ inline_name both.row.name None =
          at_with (λ (node : NodeRecord). old.row.name ≡ inline_name node.name None) (node_by_id t over) both.row both.found k.named in
          record {
            file = subst IsSome (sym old.like.filename) k.file;
            edge = to.edge;
            there = to.there;
            parent = to.same.parent ∙ k.parent;
            role = to.same.role ∙ k.role;
            child = to.same.child ∙ k.child ∙ sym old.like.id;
            format = with_at (λ (node : NodeRecord). filter_role node.kind ≡ None) (node_by_id now over) both.later both.found_later
                (ap filter_role both.like.kind
                ∙ at_with (λ (node : NodeRecord). filter_role node.kind ≡ None) (node_by_id t over) both.row both.found k.format);
            named = with_at (λ (node : NodeRecord). row.name ≡ inline_name node.name None) (node_by_id now over) both.later both.found_later
                (old.like.name ∙ was ∙ ap (λ n. inline_name n None) (sym both.like.name));
          }

-- the node over it is there
over-there : (t : RunTable) → TableStands t → (row : NodeRecord) (over : ℕ) → IsInline t row over → IsThere t over
over-there t h row over k = (h.edges k.edge k.there).parent over k.parent

module _ (t now : RunTable) (IsNewRow : NodeRecord → Type 0) (IsNewEdge : Edge → Type 0) (g : Grows t now (IsThere t) IsNewRow IsNewEdge)
    (Q : ℕ → Type 0) (h : TableStands t) where
  inline_stays : ((row : NodeRecord) (over : ℕ) → IsNewRow row → row.made_with ≡ Some over → Q row.id) → InlineBut t Q → InlineBut now Q
  inline_stays made inline = inline_grown t now (IsThere t) IsNewRow IsNewEdge g Q made
      (λ row over there kept is other. over-there t h row over (inline row over there is other))
      (λ row over there kept is other. inline row over there is other)

-- a change of which a new row was made with no other, or is one of these
abbrev MakesNone : (ℕ → Type 0) → Change → Type 0
MakesNone Q (change.AddFile row) = (over : ℕ) → row.made_with ≡ Some over → Q row.id
MakesNone Q (change.AddFormat row file backing) = row.made_with ≡ None
MakesNone Q (change.AddFilter row child) = row.made_with ≡ None
MakesNone Q change.Negotiate = Unit {0}
MakesNone Q (change.KeepId id) = Unit {0}
MakesNone Q (change.DropId id) = Unit {0}
MakesNone Q (change.MakeFile name size) = Unit {0}
MakesNone Q (change.FormatFile node name size backing_file backing_fmt) = Unit {0}
MakesNone Q (change.SpoilFile name) = Unit {0}
MakesNone Q (change.UseFile name) = Unit {0}
MakesNone Q (change.AskJob number asked) = Unit {0}
MakesNone Q (change.AddDevice device node) = Unit {0}
MakesNone Q (change.RemoveDevice number) = Unit {0}
MakesNone Q (change.AddBitmap row) = Unit {0}
MakesNone Q (change.RemoveBitmap node name) = Unit {0}
MakesNone Q (change.TurnBitmap node name on) = Unit {0}
MakesNone Q (change.ClearBitmap node name) = Unit {0}
MakesNone Q (change.MergeBitmap node name source_node source) = Unit {0}
MakesNone Q c = ⊥

inline_rows : (Q : ℕ → Type 0) (t now : RunTable) → SameRows t now → now.edges ≡ t.edges → TableStands t → InlineBut t Q → InlineBut now Q
inline_rows Q t now rows edges h inline =
    inline_stays t now NoRow NoEdge (rows_grow t now rows edges h) Q h (λ row over never. absurd never) inline

inline_keeps : (Q : ℕ → Type 0) (t : RunTable) (c : Change) → MakesNone Q c → TableSuits t c → TableStands t → InlineBut t Q → InlineBut (changed t c) Q
unfolding changed
inline_keeps Q t change.Negotiate made suits h inline = inline_rows Q t (changed t change.Negotiate) (rows-same t (changed t change.Negotiate) refl h.apart) refl h inline
inline_keeps Q t (change.KeepId id) made suits h inline = inline_rows Q t (changed t (change.KeepId id)) (rows-same t (changed t (change.KeepId id)) refl h.apart) refl h inline
inline_keeps Q t (change.DropId id) made suits h inline = inline_rows Q t (changed t (change.DropId id)) (rows-same t (changed t (change.DropId id)) refl h.apart) refl h inline
inline_keeps Q t (change.MakeFile name size) made suits h inline =
    inline_rows Q t (changed t (change.MakeFile name size)) (rows-same t (changed t (change.MakeFile name size)) refl h.apart) refl h inline
inline_keeps Q t (change.FormatFile node name size backing_file backing_fmt) made suits h inline =
    let now : RunTable = changed t (change.FormatFile node name size backing_file backing_fmt) in
    inline_rows Q t now (rows-mapped t now (node_changed node unsettled) (like_unsettled node) refl h.apart) refl h inline
inline_keeps Q t (change.SpoilFile name) made suits h inline =
    let now : RunTable = changed t (change.SpoilFile name) in
    inline_rows Q t now (rows-mapped t now (lost_with name) (like_lost name) refl h.apart) refl h inline
inline_keeps Q t (change.UseFile name) made suits h inline =
    inline_rows Q t (changed t (change.UseFile name)) (rows-same t (changed t (change.UseFile name)) refl h.apart) refl h inline
inline_keeps Q t (change.AddFile row) made suits h inline =
    inline_stays t (changed t (change.AddFile row)) (λ r. r ≡ row) NoEdge
    (file_grow t (changed t (change.AddFile row)) row suits refl (kinds_of (t.nodes ++ row ∷ [])) refl h) Q h
    (λ r over is with. subst (λ x. Q x.id) (sym is) (made over (sym (ap (λ x. x.made_with) is) ∙ with))) inline
inline_keeps Q t (change.AddFormat row file backing) made suits h inline =
    let now : RunTable = changed t (change.AddFormat row file backing) in
    let kinds : List NodeKind = kinds_of (with_unsettled file t.nodes ++ row ∷ []) in
    inline_stays t now (λ r. r ≡ row) (IsNewEdge t now row file backing suits refl kinds refl h)
    (format_grow t now row file backing suits refl kinds refl h) Q h
    (λ r over is with. absurd (let none = ap (λ x. x.made_with) is ∙ made in cc)) inline
inline_keeps Q t (change.AddFilter row child) made suits h inline =
    let now : RunTable = changed t (change.AddFilter row child) in
    let kinds : List NodeKind = kinds_of (t.nodes ++ row ∷ []) in
    inline_stays t now (λ r. r ≡ row) (IsNewFilterEdge t now row child suits refl kinds refl h)
    (filter_grow t now row child suits refl kinds refl h) Q h
    (λ r over is with. absurd (let none = ap (λ x. x.made_with) is ∙ made in cc)) inline
inline_keeps Q t (change.AskJob number asked) made suits h inline =
    inline_rows Q t (changed t (change.AskJob number asked)) (rows-same t (changed t (change.AskJob number asked)) refl h.apart) refl h inline
inline_keeps Q t (change.AddDevice device node) made suits h inline =
    let now : RunTable = changed t (change.AddDevice device node) in
    inline_stays t now NoRow (IsDriveEdge t now device node suits refl (kinds_of t.nodes) refl h)
    (device_grow t now device node suits refl (kinds_of t.nodes) refl h) Q h
    (λ r over never. absurd never) inline
inline_keeps Q t (change.RemoveDevice number) made suits h inline =
    let now : RunTable = changed t (change.RemoveDevice number) in
    inline_stays t now NoRow NoEdge (gone_grow t now number refl (kinds_of t.nodes) refl h) Q h (λ r over never. absurd never) inline
inline_keeps Q t (change.AddBitmap row) made suits h inline =
    inline_rows Q t (changed t (change.AddBitmap row)) (rows-same t (changed t (change.AddBitmap row)) refl h.apart) refl h inline
inline_keeps Q t (change.RemoveBitmap node name) made suits h inline =
    inline_rows Q t (changed t (change.RemoveBitmap node name)) (rows-same t (changed t (change.RemoveBitmap node name)) refl h.apart) refl h inline
inline_keeps Q t (change.TurnBitmap node name on) made suits h inline =
    inline_rows Q t (changed t (change.TurnBitmap node name on)) (rows-same t (changed t (change.TurnBitmap node name on)) refl h.apart) refl h inline
inline_keeps Q t (change.ClearBitmap node name) made suits h inline = inline
inline_keeps Q t (change.MergeBitmap node name source_node source) made suits h inline = inline
inline_keeps Q t c made suits h inline = absurd made

abbrev AllMakeNone : List Change → Type 0
AllMakeNone [] = Unit {0}
AllMakeNone (c ∷ changes) = MakesNone (λ id. ⊥) c × AllMakeNone changes

inline_all : (changes : List Change) (t : RunTable) → AllMakeNone changes → AllTableSuit t changes → TableStands t → InlineBut t (λ id. ⊥)
    → InlineBut (all_changed t changes) (λ id. ⊥)
inline_all [] t made suits h inline = inline
inline_all (c ∷ changes) t made suits h inline =
    inline_all changes (changed t c) made.1 suits.1 (table_keeps t c suits.0 h) (inline_keeps (λ id. ⊥) t c made.0 suits.0 h inline)

rests : (t : RunTable) (changes : List Change) → AllMakeNone changes → AllTableSuit t changes → TableAtRest t → TableAtRest (all_changed t changes)
rests t changes made suits h = record {
  stands = all_keep changes t suits h.stands;
  inline = λ row over there is.
      inline_all changes t made suits h.stands (λ r o there is other. h.inline r o there is) row over there is (λ never. never);
}

-- ---- a node with a `file` node of its own

with-backing : (id file node : ℕ) (edges : List Edge)
    → Contains (with_edge (node_edge id Backing node) (with_edge (node_edge id File file) edges)) (node_edge id File file)
with-backing id file node edges =
    with_edge-keeps (node_edge id Backing node) (with_edge (node_edge id File file) edges) (node_edge id File file)
    (by_parent (same_parent (Node id) (Node id))) (Contains-with_edge_new (node_edge id File file) edges)
  where
    by_parent : (b : Bool) → (b && false && (not false || (node == file))) ≡ false
    by_parent true = refl
    by_parent false = refl

pair_rests : (t : RunTable) (row new : NodeRecord) (backing : Option ℕ) → ((over : ℕ) → row.made_with ≡ Some over → over ≡ new.id)
    → ((over : ℕ) → row.made_with ≡ Some over → row.name ≡ inline_name new.name None) → new.made_with ≡ None
    → AllTableSuit t (change.AddFile row ∷ change.AddFormat new row.id backing ∷ []) → TableAtRest t
    → TableAtRest (all_changed t (change.AddFile row ∷ change.AddFormat new row.id backing ∷ []))
unfolding changed
pair_rests t row new backing mine named none suits h = record {
  stands = now_stands;
  inline = λ r over there is. by_id r over there is (cases_eq r.id row.id);
}
  where
    between : RunTable
    between = changed t (change.AddFile row)

    now : RunTable
    now = changed between (change.AddFormat new row.id backing)

    stands : TableStands between
    stands = table_keeps t (change.AddFile row) suits.0 h.stands

    now_stands : TableStands now
    now_stands = table_keeps between (change.AddFormat new row.id backing) suits.1.0 stands

    new_found : node_by_id now new.id ≡ Some new
    new_found = now_stands.apart new (pushed-new (with_unsettled row.id between.nodes) new)

    but : InlineBut now (λ id. id ≡ row.id)
    but = inline_keeps (λ id. id ≡ row.id) between (change.AddFormat new row.id backing) none suits.1.0 stands
        (inline_keeps (λ id. id ≡ row.id) t (change.AddFile row) (λ over with. refl) suits.0 h.stands (λ r o there is other. h.inline r o there is))

    kinds : List NodeKind
    kinds = kinds_of (with_unsettled row.id between.nodes ++ new ∷ [])

    own : HasLike now.edges (node_edge new.id File row.id)
    own = refreshed-new kinds (with_format_edges new.id row.id backing between.edges) (node_edge new.id File row.id)
        (kept backing)
      where
        kept : (below : Option ℕ) → Contains (with_format_edges new.id row.id below between.edges) (node_edge new.id File row.id)
        kept None = Contains-with_edge_new (node_edge new.id File row.id) between.edges
        kept (Some node) = with-backing new.id row.id node between.edges

    by_id : (r : NodeRecord) (over : ℕ) → Contains now.nodes r → r.made_with ≡ Some over → ((r.id ≡ row.id) ⊎ (r.id ≢ row.id)) → IsInline now r over
    by_id r over there is (inr differ) = but r over there is differ
    by_id r over there is (inl same) =
        let row_is : r ≡ unsettled suits.1.0.under = is_under between now new row.id backing suits.1.0 refl kinds refl stands r there (sym same) in
        let found = suits.1.0.found in
        let here : node_by_id between row.id ≡ Some row = stands.apart row (pushed-new t.nodes row) in
        let under_is : suits.1.0.under ≡ row = cc in
        let with : row.made_with ≡ Some over = sym (ap (λ x. x.made_with) row_is ∙ ap (λ x. x.made_with) under_is) ∙ is in
        record {
          file = subst IsSome (sym (ap (λ x. x.filename) row_is ∙ suits.1.0.of_file)) refl;
          edge = own.edge;
          there = own.there;
          parent = own.same.parent ∙ ap Node (sym (mine over with));
          role = own.same.role;
          child = own.same.child ∙ sym same;
          format = with_at (λ (node : NodeRecord). filter_role node.kind ≡ None) (node_by_id now over) new
              (subst (λ n. node_by_id now n ≡ Some new) (sym (mine over with)) new_found) suits.1.0.format;
          named = with_at (λ (node : NodeRecord). r.name ≡ inline_name node.name None) (node_by_id now over) new
              (subst (λ n. node_by_id now n ≡ Some new) (sym (mine over with)) new_found)
              (ap (λ x. x.name) row_is ∙ ap (λ x. x.name) under_is ∙ named over with);
        }

-- ---- a node that goes

pub made-goes_with : (id : ℕ) (row : NodeRecord) → goes_with_node id row ≡ true → row.made_with ≡ Some id
made-goes_with id row h = by_made row.made_with h
  where
    by_made : (made : Option ℕ) → unwrap_or (option_map (λ other. other == id) made) false ≡ true → made ≡ Some id
    by_made None e = absurd cc
    by_made (Some other) e = ap Some (eqb-true other id e)

goes_with-made : (id : ℕ) (row : NodeRecord) → row.made_with ≡ Some id → goes_with_node id row ≡ true
goes_with-made id row h = ap (λ made. unwrap_or (option_map (λ other. other == id) made) false) h ∙ eq-eqb id id refl

abbrev pub inline_change : Option NodeRecord → List Change
inline_change found = elim found as (λ _. List Change) [ None ↦ [] | Some row ↦ change.RemoveNode row.id ∷ [] ]

module _ (t : RunTable) (row : NodeRecord) (row_there : Contains t.nodes row) (alone : IsAlone t row.id) (h : TableStands t) (inline : InlineAreUnder t) where
  abbrev pub table_without : RunTable
  table_without = changed t (change.RemoveNode row.id)

  abbrev kinds_left : List NodeKind
  kinds_left = kinds_of (without_record row.id t.nodes)

  without_stands : TableStands table_without
  without_stands = table_keeps t (change.RemoveNode row.id) alone h

  pub without_grow : Grows t table_without (IsOther t row.id) NoRow NoEdge
  unfolding changed
  without_grow = removed_grow t table_without row.id alone refl kinds_left refl h

  -- a `file` node that was made with it is under it alone
  pub inline-file : (file : NodeRecord) → Contains t.nodes file → file.made_with ≡ Some row.id → LeadsToFile t row file
  inline-file file there is =
      let k = inline file row.id there is in
      record { over_there = row_there; under_there = there; edge = k.edge; there = k.there; parent = k.parent; role = k.role; child = k.child }

  pub inline-format : (file : NodeRecord) → Contains t.nodes file → file.made_with ≡ Some row.id → filter_role row.kind ≡ None
  inline-format file there is =
      at_with (λ (node : NodeRecord). filter_role node.kind ≡ None) (node_by_id t row.id) row (h.apart row row_there) (inline file row.id there is).format

  pub inline-left : (file : NodeRecord) → Contains t.nodes file → file.made_with ≡ Some row.id → IsAlone table_without file.id
  inline-left file there is e e_there to = elim (without_grow.edges e e_there) [
    | inl old ↦
        let taken = h.taken row file (inline-file file there is) (inline file row.id there is).file (inline-format file there is) in
        let sole = taken.sole old.edge old.there (old.same.child ∙ to) in
        (old.parent row.id sole.0).1 refl
    | inr never ↦ never
  ]

  -- there is one such node at most
  one-inline : (a b : NodeRecord) → Contains t.nodes a → Contains t.nodes b → a.made_with ≡ Some row.id → b.made_with ≡ Some row.id → a.id ≡ b.id
  one-inline a b there_a there_b is_a is_b =
      let f = inline-file a there_a is_a in
      let k = inline-file b there_b is_b in
      let of_f = h.single f.edge f.there f.role in
      let of_k = h.single k.edge k.there k.role in
      let node_f : of_f.0 ≡ row.id = (let both = sym of_f.1.0 ∙ f.parent in cc) in
      let node_k : of_k.0 ≡ row.id = (let both = sym of_k.1.0 ∙ k.parent in cc) in
      let child_f = subst (λ n. child t n File ≡ Some f.edge.child) node_f of_f.1.1 in
      let child_k = subst (λ n. child t n File ≡ Some k.edge.child) node_k of_k.1.1 in
      let same : f.edge.child ≡ k.edge.child = cc in
      sym f.child ∙ same ∙ k.child

  -- all other nodes that were made with one are under that
  without_inline : (Q : ℕ → Type 0) → ((file : NodeRecord) → Contains t.nodes file → file.made_with ≡ Some row.id → Q file.id) → InlineBut table_without Q
  without_inline Q those = inline_grown t table_without (IsOther t row.id) NoRow NoEdge without_grow Q
      (λ r over never. absurd never)
      (λ r over there kept is other. (
        over-there t h r over (inline r over there is),
        λ same. other (those r there (is ∙ ap Some same)),
      ))
      (λ r over there kept is other. inline r over there is)

  last : (file : NodeRecord) → Contains t.nodes file → file.made_with ≡ Some row.id → (left : IsAlone table_without file.id)
      → InlineAreUnder (changed table_without (change.RemoveNode file.id))
  unfolding changed
  last file there with left r over r_there is =
      inline_grown table_without now (IsOther table_without file.id) NoRow NoEdge grow (λ id. ⊥)
      (λ x o never. absurd never)
      (λ x o x_there kept x_is other.
      let k = but x o x_there x_is kept.1 in
      (over-there table_without without_stands x o k, λ same. no_parent k same))
      (λ x o x_there kept x_is other. but x o x_there x_is kept.1)
      r over r_there is (λ never. never)
    where
      now : RunTable
      now = changed table_without (change.RemoveNode file.id)

      grow : Grows table_without now (IsOther table_without file.id) NoRow NoEdge
      grow = removed_grow table_without now file.id left refl (kinds_of (without_record file.id table_without.nodes)) refl without_stands

      but : InlineBut table_without (λ id. id ≡ file.id)
      but = without_inline (λ id. id ≡ file.id) (λ x x_there x_is. one-inline x file x_there there x_is with)

      -- a `file` node leads to no other
      no_parent : {x : NodeRecord} {o : ℕ} → IsInline table_without x o → o ≡ file.id → ⊥
      no_parent {x} {o} k same =
          by_name file.filename refl (inline file row.id there with).file
        where
          by_name : (name : Option (List ℕ)) → file.filename ≡ name → IsSome name → ⊥
          by_name None e some = cc
          by_name (Some name) e some = elim (without_grow.edges k.edge k.there) [
            | inr never ↦ never
            | inl old ↦
                let driver = h.drivers name file (record { there = there; filename = e }) in
                let role = h.roles old.edge file old.there there (old.same.parent ∙ k.parent ∙ ap Node same) in
                let of_file : has_role Protocol old.edge.role ≡ true = subst (λ d. has_role d old.edge.role ≡ true) driver role in
                cc
          ]

  gone_rests : (found : Option NodeRecord) → find (goes_with_node row.id) t.nodes ≡ found
      → AllTableSuit table_without (inline_change found) × TableAtRest (all_changed table_without (inline_change found))
  gone_rests None none = (
    tt,
    record {
      stands = without_stands;
      inline = λ r over there is.
          without_inline (λ id. ⊥)
          (λ file there with. no-found (goes_with_node row.id) t.nodes file none there (goes_with-made row.id file with))
          r over there is (λ never. never);
    },
  )
  gone_rests (Some file) found =
      let here = find-Some (goes_with_node row.id) t.nodes file found in
      let with = made-goes_with row.id file here.1 in
      let left = inline-left file here.0 with in (
        (left, tt),
        record {
          stands = table_keeps table_without (change.RemoveNode file.id) left without_stands;
          inline = last file here.0 with left;
        },
      )

-- ---- commands

abbrev BothRest : RunTable → List Change → Type 0
BothRest t changes = AllTableSuit t changes × TableAtRest (all_changed t changes)

del_rests : (t : RunTable) (told : Told) (name : List ℕ) → NoneHolds t told (del_asks name) → TableAtRest t → BothRest t (del_edits t name)
unfolding changed
del_rests t told name asks h = by_row (found-named t told name asks.1.0)
  where
    by_use : (row : NodeRecord) → Contains t.nodes row → IsAlone t row.id → (file : Option (List ℕ))
        → BothRest t (file_uses file ++ change.RemoveNode row.id ∷ with_inline t row.id)
    by_use row there alone None =
        let gone = gone_rests t row there alone h.stands h.inline (find (goes_with_node row.id) t.nodes) refl in
        ((alone, gone.0), gone.1)
    by_use row there alone (Some name) =
        let used : TableAtRest (changed t (change.UseFile name)) = rests t (change.UseFile name ∷ []) (tt, tt) (tt, tt) h in
        let gone = gone_rests (changed t (change.UseFile name)) row there alone used.stands used.inline (find (goes_with_node row.id) t.nodes) refl in
        ((tt, (alone, gone.0)), gone.1)

    by_row : ((row : NodeRecord) × (node_named t name ≡ Some row)) → BothRest t (del_edits t name)
    by_row named =
        let row : NodeRecord = named.0 in
        let there = (named-row t told h.stands name row named.1).0 in
        rw named.1 (by_use row there (no_edge row.id t.edges (lone-node t told name row named.1 asks.1.1.1.0)) (file_under t row))

both_rest : (t : RunTable) (changes : List Change) → AllMakeNone changes → AllTableSuit t changes → TableAtRest t → BothRest t changes
both_rest t changes made suits h = (suits, rests t changes made suits h)

made_with-over : (id over : ℕ) (name : Option (List ℕ)) → goes_with id name ≡ Some over → over ≡ id
made_with-over id over None h = cc
made_with-over id over (Some name) h = absurd cc

add_rests : (t : RunTable) (told exp : Told) (c : BlockdevAdd (List ℕ)) → NoneHolds t told (add_asks c) → TableAtRest t → BothRest t (add_edits t exp c)
add_rests t told exp c asks h = by_driver c.driver (add-table t told h.stands c exp asks)
  where
    name : List ℕ
    name = c.node_name

    read_only : Bool
    read_only = is_read_only c.options

    of_raw : (raw : AddRaw (List ℕ)) (file : FileRef (List ℕ)) → AllTableSuit t (raw_edits t exp name read_only raw file)
        → BothRest t (raw_edits t exp name read_only raw file)
    of_raw raw (file_ref.Name file) suits = both_rest t (raw_edits t exp name read_only raw (file_ref.Name file)) (refl, tt) suits h
    of_raw raw (file_ref.Inline file) suits = (
      suits,
      pair_rests t (inline_row t exp name file) (raw_record (next_free_id t) name (length_told exp) read_only raw) None
          (λ over with. made_with-over (next_free_id t) over file.node_name with)
          (λ over with. goes-named (next_free_id t) over name file.node_name with) refl suits h,
    )

    of_qcow2 : (back : Option (List ℕ)) (file : FileRef (List ℕ)) → AllTableSuit t (qcow2_edits t exp name read_only back file)
        → BothRest t (qcow2_edits t exp name read_only back file)
    of_qcow2 back (file_ref.Name file) suits = both_rest t (qcow2_edits t exp name read_only back (file_ref.Name file)) (refl, tt) suits h
    of_qcow2 back (file_ref.Inline file) suits = (
      suits,
      pair_rests t (inline_row t exp name file) (image_row (next_free_id t) exp name read_only) (option_and_then (id_named t) back)
          (λ over with. made_with-over (next_free_id t) over file.node_name with)
          (λ over with. goes-named (next_free_id t) over name file.node_name with) refl suits h,
    )

    by_driver : (driver : Added (List ℕ)) → AllTableSuit t (added_edits t exp name read_only driver)
        → BothRest t (added_edits t exp name read_only driver)
    by_driver (added.File filename) suits = both_rest t (added_edits t exp name read_only (added.File filename)) (λ over with. absurd cc, tt) suits h
    by_driver (added.Raw raw) suits = of_raw raw raw.file suits
    by_driver (added.Qcow2 image) suits = of_qcow2 (backing_name image.backing) image.file suits
    by_driver (added.CopyOnRead file) suits = both_rest t (added_edits t exp name read_only (added.CopyOnRead file)) (refl, tt) suits h
    by_driver added.Unknown suits = both_rest t [] tt tt h

made-append : (xs ys : List Change) → AllMakeNone xs → AllMakeNone ys → AllMakeNone (xs ++ ys)
made-append [] ys h k = k
made-append (c ∷ xs) ys h k = (h.0, made-append xs ys h.1 k)

device_rests : (t : RunTable) (told : Told) (c : DeviceAdd (List ℕ)) → NoneHolds t told (device_add_asks c) → TableAtRest t
    → BothRest t (device_add_edits t c)
device_rests t told c asks h =
    both_rest t (device_add_edits t c) (made (node_named t c.drive)) (device-table t told h.stands c asks) h
  where
    made_uses : (name : Option (List ℕ)) → AllMakeNone (file_uses name)
    made_uses None = tt
    made_uses (Some name) = (tt, tt)

    made_if : (row : NodeRecord) (b : Bool) → AllMakeNone (if b then file_uses row.filename else [])
    made_if row true = made_uses row.filename
    made_if row false = tt

    made : (found : Option NodeRecord) → AllMakeNone (of_row (λ row. device_uses row ++ change.AddDevice (new_device t c row) row.id ∷ []) found)
    made None = tt
    made (Some row) = made-append (device_uses row) (change.AddDevice (new_device t c row) row.id ∷ []) (made_if row (is_file row)) (tt, tt)

device_gone_rests : (t : RunTable) (found : Option DeviceRow) → TableAtRest t
    → BothRest t (elim found as (λ _. List Change) [ None ↦ [] | Some device ↦ change.RemoveDevice device.number ∷ [] ])
device_gone_rests t None h = (tt, h)
device_gone_rests t (Some device) h = both_rest t (change.RemoveDevice device.number ∷ []) (tt, tt) (tt, tt) h

create_rests : (t : RunTable) (id : List ℕ) (options : Created (List ℕ)) → TableAtRest t → BothRest t (change.KeepId id ∷ created_change t options)
create_rests t id (created.File c) h = both_rest t (change.KeepId id ∷ created_change t (created.File c)) (tt, (tt, tt)) (tt, (tt, tt)) h
create_rests t id (created.Qcow2 c) h = both_rest t (change.KeepId id ∷ created_change t (created.Qcow2 c)) (tt, (tt, tt)) (tt, (tt, tt)) h
create_rests t id created.Unknown h = both_rest t (change.KeepId id ∷ []) (tt, tt) (tt, tt) h

merges-made : (t : RunTable) (node target : List ℕ) (sources : SeenSources) → AllMakeNone (merges t node target sources)
merges-made t node target [] = tt
merges-made t node target (s ∷ sources) = (tt, merges-made t node target sources)

merges-table : (t : RunTable) (node target : List ℕ) (sources : SeenSources) (now : RunTable) → AllTableSuit now (merges t node target sources)
merges-table t node target [] now = tt
merges-table t node target (s ∷ sources) now = (tt, merges-table t node target sources (changed now _))

asked_rests : (t : RunTable) (ask : JobRecord → AskedEnd) (found : Option JobRecord) → TableAtRest t
    → BothRest t (elim found as (λ _. List Change) [ None ↦ [] | Some job ↦ change.AskJob job.number (ask job) ∷ [] ])
asked_rests t ask None h = (tt, h)
asked_rests t ask (Some job) h = both_rest t (change.AskJob job.number (ask job) ∷ []) (tt, tt) (tt, tt) h

-- An accepted command that begins no job leaves the table as it is to be between events, whatever was told.
pub command_rests : (t : RunTable) (told exp : Told) (c : Cmd) → begins_job c ≡ false → TableAtRest t → refusal_to t told c ≡ None
    → AllTableSuit t (command_edits t exp c) × TableAtRest (all_changed t (command_edits t exp c))
unfolding refusal_to asks_of edits_of
command_rests t told exp c begins rests h =
    let known = none-both (unbuilt c) _ h in
    let turn = none-both (out_of_turn (negotiates c) t.negotiated) _ known.1 in
    let asks = none-both (first_unmet_ask t told (asks_of c)) _ turn.1 in
    by_command c begins rests known.0 (none-holds t told (asks_of c) asks.0)
  where
    by_command : (c : Cmd) → begins_job c ≡ false → TableAtRest t → unbuilt c ≡ None → NoneHolds t told (asks_of c) → BothRest t (command_edits t exp c)
    by_command (command.Capabilities enable) begins h is asks = both_rest t (change.Negotiate ∷ []) (tt, tt) (tt, tt) h
    by_command (command.BlockdevCreate c) begins h is asks = create_rests t c.job_id c.options h
    by_command (command.JobDismiss id) begins h is asks = both_rest t (change.DropId id ∷ []) (tt, tt) (tt, tt) h
    by_command (command.BlockdevAdd c) begins h is asks = add_rests t told exp c asks h
    by_command (command.BlockdevDel name) begins h is asks = del_rests t told name asks h
    by_command (command.DeviceAdd c) begins h is asks = device_rests t told c asks h
    by_command (command.BlockdevSnapshot c) begins h is asks = snapshot_rests t told c asks h
    by_command (command.DeviceDel id) begins h is asks = device_gone_rests t (device_named t id) h
    by_command (command.BlockJobCancel job force) begins h is asks = asked_rests t (asked_by_cancel (flag_or_false force)) (job_named t job) h
    by_command (command.BlockJobComplete job) begins h is asks = asked_rests t (λ row. asked.Complete) (job_named t job) h
    by_command command.QueryBlockJobs begins h is asks = (tt, h)
    by_command (command.QueryNamedBlockNodes flat) begins h is asks = (tt, h)
    by_command (command.BitmapAdd c) begins h is asks = both_rest t (bitmap_add_edits t c) (tt, tt) (tt, tt) h
    by_command (command.BitmapRemove c) begins h is asks = both_rest t (bitmap_remove_edits t c) (tt, tt) (tt, tt) h
    by_command (command.BitmapClear c) begins h is asks = both_rest t (bitmap_clear_edits t c) (tt, tt) (tt, tt) h
    by_command (command.BitmapEnable c) begins h is asks = both_rest t (bitmap_turn_edits t true c) (tt, tt) (tt, tt) h
    by_command (command.BitmapDisable c) begins h is asks = both_rest t (bitmap_turn_edits t false c) (tt, tt) (tt, tt) h
    by_command (command.BitmapMerge c) begins h is asks =
        both_rest t (merge_edits t c) (merges-made t c.node c.target c.bitmaps) (merges-table t c.node c.target c.bitmaps t) h
    by_command _ begins h is asks = absurd cc

-- so does a creation of which a call failed
pub spoiled_file_rests : (t : RunTable) (name : List ℕ) → TableAtRest t → TableAtRest (changed t (change.SpoilFile name))
spoiled_file_rests t name h = rests t (change.SpoilFile name ∷ []) (tt, tt) (tt, tt) h

pub spoiled_rests : (t : RunTable) (options : Created (List ℕ)) → TableAtRest t → TableAtRest (all_changed t (spoiled t options))
spoiled_rests t (created.File c) h = spoiled_file_rests t c.filename h
spoiled_rests t (created.Qcow2 c) h = spoiled_file_rests t (file_of_node t c.file) h
spoiled_rests t created.Unknown h = h

-- and a piece of a guest's write
pub written_rests : (t : RunTable) (node : ℕ) → TableAtRest t → TableAtRest (written_under node t)
unfolding written_under
written_rests t node h =
    let now : RunTable = written_under node t in
    let rows = rows-mapped t now (unsettled_over t node) (like_over t node) refl h.stands.apart in
    record {
      stands = rows_table t now rows refl refl refl h.stands;
      inline = λ row over there is. inline_rows (λ id. ⊥) t now rows refl h.stands (λ r o r_there with other. h.inline r o r_there with) row over there is (λ never. never);
    }
