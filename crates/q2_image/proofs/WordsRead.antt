-- What is answered of the words of all tables, by what is answered of each.
use Rattle.std.proofs.Common.{◌≡◌, ℕ, List, length, replicate, Option, Some, None, Result, Ok, Err, sym, ap, subst, ◌∙◌}
use Rattle.std.proofs.lemmas.List.{length-replicate}
use Rattle.blk_base.specs.Files.{IfTold, WasRead}
use Rattle.blk_base.proofs.Readings.{was_read}
use Rattle.q2_format.specs.Sizes.{cluster_size, entries_in_cluster}
use Rattle.q2_format.specs.Tables.{Tree, active_tree, refcount_table}
use Rattle.q2_format.specs.declared.header.Header.{Header}
use Rattle.q2_format.proofs.Trees.{length_l1}
use Rattle.q2_tables.specs.Kept.{KeptTables}
use Rattle.q2_tables.specs.Loading.{AnswersTree, HasRows, TreeStands}
use Rattle.q2_tables.proofs.Trees.{active_stands, rows_of_active}
use Rattle.q2_tables.specs.declared.stop.TablesStop.{TablesStop}
use Rattle.q2_image.specs.Loading.{AnswersTable, AnswersTables, ImageWords, IsTableOf, TableTells, reserved_entry, words_in}
use Rattle.q2_image.specs.Merge.{merged_stop}
use Rattle.q2_image.specs.Opening.{place_stops}
use Rattle.q2_image.specs.declared.counting.RefTable.{RefTable}
use Rattle.q2_image.specs.declared.counting.RefTable.TheVariants.{Reserved}
use Rattle.q2_image.specs.declared.stop.ImageStop.{ImageStop}
use Rattle.q2_image.specs.declared.stop.ImageStop.TheVariants as stops
use Rattle.q2_image.proofs.Merged.{judged_block, judged_ok, judged_reserved, judged_stop}

both_are : (content : Option (List ℕ)) (h : Header) (table : List ℕ) (tree : Tree) → IfTold content (λ file. table ≡ refcount_table file h) → IfTold content (λ file. tree ≡ active_tree file h)
    → IfTold content (λ file. record { table = table; tree = tree } ≡ words_in h file)
both_are None h table tree is are = tt
both_are (Some file) h table tree is are =
    let first : List ℕ → ImageWords = λ words. record { table = words; tree = tree } in
    let second : Tree → ImageWords = λ t. record { table = refcount_table file h; tree = t } in
    ap first is ∙ ap second are

-- words of a refcount table and of a tree that were read
pub words_read : (content : Option (List ℕ)) (h : Header) (P : List ℕ → Type 0) (Q : Tree → Type 0) (R : ImageWords → Type 0)
    → ((table : List ℕ) (tree : Tree) → P table → Q tree → R (record { table = table; tree = tree }))
    → WasRead content (λ file. refcount_table file h) P → WasRead content (λ file. active_tree file h) Q → WasRead content (words_in h) R
words_read content h P Q R both table tree = record {
  value = record { table = table.value; tree = tree.value };
  is = both_are content h table.value tree.value table.is tree.is;
  holds = both table.value tree.value table.holds tree.holds;
}

module _ {A : Type 0} (h : Header) (len : ℕ) (table_of : A → List ℕ) (tables_of : A → KeptTables) (placed : place_stops h len ≡ None) where
  -- nothing is refused
  pub both_answered : (a : A) (read : RefTable) → reserved_entry read ≡ None → ((words : List ℕ) → IsTableOf words read → table_of a ≡ words) → (table : List ℕ) (tree : Tree)
      → AnswersTable h len (Ok read) table → AnswersTree h len (Ok (tables_of a)) tree → AnswersTables h len table_of tables_of (Ok a) (record { table = table; tree = tree })
  both_answered a read none same table tree of_table of_tree = record {
    sizes = record { table = of_table.entries; l1 = of_tree.entries; rows = of_tree.rows; table_stands = of_table.stands; tree_stands = of_tree.stands };
    judged = judged_ok table h len tree placed (subst (TableTells h len table) none of_table.tells.0) of_tree.loads.0;
    table = same table of_table.tells.1;
    tree = of_tree.loads.1;
  }

  -- a reserved bit of the refcount table
  pub reserved_answered : (t : KeptTables) (read : RefTable) (index : ℕ) (stop : ImageStop) → read ≡ Reserved index → stop ≡ stops.Reserved h.ref_offset index → (table : List ℕ) (tree : Tree)
      → AnswersTable h len (Ok read) table → AnswersTree h len (Ok t) tree → AnswersTables h len table_of tables_of (Err stop) (record { table = table; tree = tree })
  reserved_answered t read index stop is named table tree of_table of_tree =
      let W : ImageStop → Type 0 = λ s. AnswersTables h len table_of tables_of (Err s) (record { table = table; tree = tree }) in
      subst W (sym named) (record {
        sizes = record { table = of_table.entries; l1 = of_tree.entries; rows = of_tree.rows; table_stands = of_table.stands; tree_stands = of_tree.stands };
        judged = judged_reserved table h len index tree placed (subst (TableTells h len table) (ap reserved_entry is) of_table.tells.0) of_tree.loads.0;
        table = tt;
        tree = tt;
      })

  -- a refusal of the tree
  pub tree_answered : (read : RefTable) (first : TablesStop) (stop : ImageStop) → stop ≡ merged_stop h (reserved_entry read) first → (table : List ℕ) (tree : Tree)
      → AnswersTable h len (Ok read) table → AnswersTree h len (Err first) tree → AnswersTables h len table_of tables_of (Err stop) (record { table = table; tree = tree })
  tree_answered read first stop named table tree of_table of_tree =
      let W : ImageStop → Type 0 = λ s. AnswersTables h len table_of tables_of (Err s) (record { table = table; tree = tree }) in
      subst W (sym named) (record {
        sizes = record { table = of_table.entries; l1 = of_tree.entries; rows = of_tree.rows; table_stands = of_table.stands; tree_stands = of_tree.stands };
        judged = judged_stop table h len (reserved_entry read) tree first placed of_table.tells.0 of_tree.loads;
        table = tt;
        tree = tt;
      })

-- A refusal of the refcount table's words, whatever the tree has.
module _ {A : Type 0} (content : Option (List ℕ)) (h : Header) (len : ℕ) (told_size : (file : List ℕ) → content ≡ Some file → len ≡ length file) (table_of : A → List ℕ) (tables_of : A → KeptTables) where
  record IsSized (tree : Tree) : Type 0 where
    l1 : length tree.l1 ≡ h.l1_size
    rows : HasRows (entries_in_cluster (cluster_size h.cluster_bits)) tree
    stands : TreeStands h len tree

  sized : (file : List ℕ) → len ≡ length file → IsSized (active_tree file h)
  sized file size = record { l1 = length_l1 file (cluster_size h.cluster_bits) h.l1_offset h.l1_size; rows = rows_of_active file h; stands = active_stands file h len size }

  pub table_refused : (stop : ImageStop) → WasRead content (λ file. refcount_table file h) (AnswersTable h len (Err stop)) → WasRead content (words_in h) (AnswersTables h len table_of tables_of (Err stop))
  table_refused stop read =
      words_read content h (AnswersTable h len (Err stop)) IsSized (AnswersTables h len table_of tables_of (Err stop))
      (λ table tree of_table of_tree. record {
        sizes = record { table = of_table.entries; l1 = of_tree.l1; rows = of_tree.rows; table_stands = of_table.stands; tree_stands = of_tree.stands };
        judged = judged_block table h len tree stop of_table.tells;
        table = tt;
        tree = tt;
      }) read
      (was_read content (λ file. active_tree file h) IsSized (active_tree (replicate len 0) h) (λ file told. sized file (told_size file told)) (sized (replicate len 0) (sym (length-replicate len 0))))

-- on a device that tells the same, in a file that is as long
pub words_at : {A : Type 0} (h : Header) (table_of : A → List ℕ) (tables_of : A → KeptTables) (result : Result A ImageStop) (later content : Option (List ℕ)) (n len : ℕ)
    → later ≡ content → n ≡ len → WasRead later (words_in h) (AnswersTables h n table_of tables_of result) → WasRead content (words_in h) (AnswersTables h len table_of tables_of result)
words_at h table_of tables_of result later content n len same alike read =
    let W : Option (List ℕ) → ℕ → Type 0 = λ o k. WasRead o (words_in h) (AnswersTables h k table_of tables_of result) in
    subst (W content) alike (subst (λ o. W o n) same read)
