-- One node more leaves what holds of states.
use Rattle.std.proofs.Common.{◌≡◌, ◌⊎◌, ℕ, true, false, List, [], ◌∷◌, ◌++◌, sym, ap, subst, ◌∙◌, inl, inr, Some, None, option_map}
use Rattle.std.specs.Prelude.{bytes_eq, IsSome}
use Rattle.std.specs.List.{find, Contains}
use Rattle.blk_graph.specs.declared.edge.Edge.{Edge}
use Rattle.blk_graph.specs.declared.edge.Role.TheVariants.{File}
use Rattle.blk_graph.specs.declared.kind.NodeKind.{NodeKind}
use Rattle.blk_graph.specs.Refreshed.{refreshed}
use Rattle.qmp_rules.specs.declared.rows.NodeRecord.{NodeRecord}
use Rattle.qmp_rules.specs.declared.rows.FileState.{FileState}
use Rattle.qmp_rules.specs.declared.rows.FileState.TheVariants.{Formatted, Used}
use Rattle.qmp_rules.specs.Table.{RunTable, file_state}
use Rattle.flat_machine.specs.State.{State, content_in}
use Rattle.flat_machine.specs.Wiring.{StandsFor, IsUnder, TableStands}
use Rattle.flat_machine.specs.Standing.{IsLostBy, IsOpenlyKnown, FilesAreOfState, WritingStands, Stands}
use Rattle.flat_machine.proofs.Tables.{pushed-cases, pushed-old}
use Rattle.flat_machine.proofs.Rows.{under-refreshed, IsLike, SameRows}

-- ---- one node more

pub record IsNewRow (now : State) (new : NodeRecord) : Type 0 where
  pub file_there : (name : List ℕ) → new.filename ≡ Some name → IsSome (content_in now.files name)
  pub settled : (name : List ℕ) → new.filename ≡ Some name → new.is_settled ≡ true

-- edges are the old ones, those to `file` nodes among them, with others, derived anew
pub record HasEdges (s now : State) : Type 0 where
  pub kinds : List NodeKind
  pub before : List Edge
  pub derived : now.table.edges ≡ refreshed kinds before
  pub keeps : (e : Edge) → Contains s.table.edges e → e.role ≡ File → Contains before e

pub under-kept : (s now : State) → HasEdges s now → (file : ℕ) → IsUnder s.table.edges file → IsUnder now.table.edges file
under-kept s now es file h =
    subst (λ edges. IsUnder edges file) (sym es.derived)
    (under-refreshed es.kinds es.before file
    (record { edge = h.edge; there = es.keeps h.edge h.there h.over; over = h.over; child = h.child }))

module _ (s now : State) (between : RunTable) (new : NodeRecord) where
  pub added_stands : SameRows s.table between → now.table.nodes ≡ between.nodes ++ new ∷ [] → HasEdges s now
      → now.table.files ≡ s.table.files → IsNewRow now new
      → ((name : List ℕ) → IsSome (content_in s.files name) → IsSome (content_in now.files name))
      → ((other : List ℕ) (row later : NodeRecord) → StandsFor s.table other row → IsLike row later → Contains between.nodes later
      → later.is_settled ≡ false → (row.is_settled ≡ false) ⊎ IsLostBy now.table other later)
      → FilesAreOfState now → TableStands now.table → WritingStands now → Stands s → Stands now
  added_stands rows nodes es files is_new there loses states table writing h = record {
    table = table;
    files = λ name row over. elim (origin row over.there) [
      | inl old ↦ there name (h.files name old.0 (stood name row old over))
      | inr same ↦ is_new.file_there name (sym (ap (λ r. r.filename) same) ∙ over.filename)
    ];
    lost = λ name row over gone. elim (pushed-cases between.nodes new row (subst (λ ns. Contains ns row) nodes over.there)) [
      | inl in_between ↦
          let old = rows.back row in_between in
          elim (loses name old.0 row (stood name row old over) old.1.1 in_between gone) [
            | inl was ↦ lost_as_before name old.0 row old.1.1 (h.lost name old.0 (stood name row old over) was)
            | inr is_lost ↦ is_lost
          ]
      | inr same ↦
          let settled = is_new.settled name (sym (ap (λ r. r.filename) same) ∙ over.filename) in
          let lost_it = ap (λ r. r.is_settled) same in
          absurd cc
    ];
    states = states;
    formatted = λ name is.
        let row = h.formatted name (subst (λ fs. option_map (λ r. r.state) (find (λ r. bytes_eq r.name name) fs) ≡ Some Formatted) files is) in
        let later = rows.forth row.0 row.1.there in (
          later.0,
          record {
            there = subst (λ ns. Contains ns later.0) (sym nodes) (pushed-old between.nodes new later.0 later.1.0);
            filename = later.1.1.filename ∙ row.1.filename;
          },
        );
    writing = writing;
  }
    where
      origin : (row : NodeRecord) → Contains now.table.nodes row → ((old : NodeRecord) × (Contains s.table.nodes old × IsLike old row)) ⊎ (row ≡ new)
      origin row in_now = elim (pushed-cases between.nodes new row (subst (λ ns. Contains ns row) nodes in_now)) [
        | inl in_between ↦ inl (rows.back row in_between)
        | inr same ↦ inr same
      ]

      stood : (name : List ℕ) (row : NodeRecord) (old : (r : NodeRecord) × (Contains s.table.nodes r × IsLike r row)) → StandsFor now.table name row
          → StandsFor s.table name old.0
      stood name row old over = record { there = old.1.0; filename = sym old.1.1.filename ∙ over.filename }

      state_same : (name : List ℕ) (state : FileState) → file_state s.table name ≡ Some state → file_state now.table name ≡ Some state
      state_same name state is =
          subst (λ fs. option_map (λ r. r.state) (find (λ r. bytes_eq r.name name) fs) ≡ Some state) (sym files) is

      lost_as_before : (name : List ℕ) (row later : NodeRecord) → IsLike row later → IsLostBy s.table name row → IsLostBy now.table name later
      lost_as_before name row later like (inl used) = inl (state_same name Used used)
      lost_as_before name row later like (inr (inl image)) = inr (inl (state_same name Formatted image))
      lost_as_before name row later like (inr (inr under)) =
          inr (inr (under-kept s now es later.id (subst (IsUnder s.table.edges) (sym like.id) under)))

-- what is open was open before
pub open-before : (s now : State) → HasEdges s now
    → ((name : List ℕ) (row : NodeRecord) → StandsFor s.table name row → (later : NodeRecord) × (StandsFor now.table name later × (later.id ≡ row.id)))
    → (name : List ℕ) → IsOpenlyKnown now.table name → IsOpenlyKnown s.table name
open-before s now es forth name is_open row over under =
    let later = forth name row over in
    is_open later.0 later.1.0 (under-kept s now es later.0.id (subst (IsUnder s.table.edges) (sym later.1.1) under))

pub stands-pushed : (t between now : RunTable) (new : NodeRecord) → SameRows t between → now.nodes ≡ between.nodes ++ new ∷ []
    → (name : List ℕ) (row : NodeRecord) → StandsFor t name row → (later : NodeRecord) × (StandsFor now name later × (later.id ≡ row.id))
stands-pushed t between now new rows nodes name row over =
    let later = rows.forth row over.there in (
      later.0,
      (
        record {
          there = subst (λ ns. Contains ns later.0) (sym nodes) (pushed-old between.nodes new later.0 later.1.0);
          filename = later.1.1.filename ∙ over.filename;
        },
        later.1.1.id,
      ),
    )

-- a row that stands for no file
pub no_file_row : (now : State) (row : NodeRecord) → row.filename ≡ None → IsNewRow now row
no_file_row now row none = record {
  file_there = λ name is. absurd cc;
  settled = λ name is. absurd cc;
}
