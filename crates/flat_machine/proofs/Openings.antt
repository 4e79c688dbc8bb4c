-- A run begins with tables that stand and files that are as they were found; and entries that touch no disk leave all of it.
use Rattle.std.proofs.Common.{◌≡◌, ℕ, Bool, true, false, cond, List, [], ◌∷◌, map, refl, sym, subst, ◌∙◌, Option, Some, None, option_map}
use Rattle.std.specs.Prelude.{bytes_eq}
use Rattle.std.specs.List.{find}
use Rattle.std.proofs.lemmas.List.Elements.{All-nil}
use Rattle.blk_base.specs.declared.file.File.{File}
use Rattle.blk_base.specs.Files.{file_at}
use Rattle.blk_graph.proofs.Members.{Contains-nil}
use Rattle.qmp_rules.specs.Table.{opening_table}
use Rattle.flat_machine.specs.declared.opening.Opening.{Opening}
use Rattle.flat_machine.specs.State.{Content, Bytes, Blank, Unknown, content_in}
use Rattle.flat_machine.specs.Contents.{found}
use Rattle.flat_machine.specs.Opening.{start}
use Rattle.flat_machine.specs.Final.{bytes_named}
use Rattle.flat_machine.specs.Agreement.{Contents, IsAsKnown, IsLeftAs, Agrees}
use Rattle.flat_machine.specs.Wiring.{TableStands, TableAtRest}
use Rattle.flat_machine.specs.Standing.{Stands, StandsAtRest, IsUsedUp, IsOfState}
use Rattle.flat_machine.proofs.Finds.{bytes_eq-same, bytes_eq-other, same-bytes_eq}

-- ---- the beginning

bytes_eq-turned : (a b : List ℕ) → bytes_eq a b ≡ bytes_eq b a
bytes_eq-turned a b = by_test (bytes_eq b a) refl
  where
    by_test : (t : Bool) → bytes_eq b a ≡ t → bytes_eq a b ≡ t
    by_test true e = subst (λ n. bytes_eq a n ≡ true) (sym (same-bytes_eq b a e)) (bytes_eq-same a)
    by_test false e = bytes_eq-other a b (λ same. let yes : bytes_eq b a ≡ true = subst (λ n. bytes_eq n a ≡ true) same (bytes_eq-same a) in cc)

-- what is known of files as they are found
found_bytes : (files : List File) (name : List ℕ) → content_in (map found files) name ≡ option_map Bytes (bytes_named files name)
found_bytes [] name = refl
found_bytes (f ∷ files) name = by_test (bytes_eq f.name name) (bytes_eq name f.name) (bytes_eq-turned name f.name) (found_bytes files name)
  where
    by_test : (a b : Bool) → b ≡ a → content_in (map found files) name ≡ option_map Bytes (bytes_named files name)
        → option_map (λ known. known.content) (cond a (Some (found f)) (find (λ known. bytes_eq known.name name) (map found files)))
        ≡ option_map Bytes (option_map (λ g. g.bytes) (cond b (Some f) (file_at name files)))
    by_test true true e ih = refl
    by_test false false e ih = ih
    by_test true false e ih = absurd cc
    by_test false true e ih = absurd cc

-- a table without rows
start_table : (guests : List (List ℕ)) → TableStands (opening_table guests)
start_table guests = record {
  apart = λ row there. absurd (Contains-nil row there);
  drivers = λ name row over. absurd (Contains-nil row over.there);
  names = λ row there. absurd (Contains-nil row there);
  own_names = λ row there. absurd (Contains-nil row there);
  hidden = λ row there. absurd (Contains-nil row there);
  alone = λ name a b over_a over_b. absurd (Contains-nil a over_a.there);
  edges = λ e there. absurd (Contains-nil e there);
  roles = λ e row there. absurd (Contains-nil e there);
  acyclic = λ node cycle. Contains-nil cycle.first cycle.path.0;
  single = λ e there. absurd (Contains-nil e there);
  taken = λ over under f. absurd (Contains-nil over f.over_there);
  filtered = λ over under f. absurd (Contains-nil over f.over_there);
  on_top = λ e row over there. absurd (Contains-nil e there);
  reads = λ node row found. absurd cc;
  numbers = λ device there. absurd (Contains-nil device there);
}

pub start_table_rests : (guests : List (List ℕ)) → TableAtRest (opening_table guests)
start_table_rests guests = record { stands = start_table guests; inline = λ row over there. absurd (Contains-nil row there) }

pub start_stands : (o : Opening) → Stands (start o)
start_stands o = record {
  table = start_table o.guests;
  files = λ name row over. absurd (Contains-nil row over.there);
  lost = λ name row over gone. absurd (Contains-nil row over.there);
  states = λ name content is is_open. is_whole content (bytes_named o.files name) (sym (found_bytes o.files name) ∙ is);
  formatted = λ name is. absurd cc;
  writing = record {
    named = λ name row over. absurd (Contains-nil row over.there);
    unknown = λ name over under f. absurd (Contains-nil over f.over_there);
    copied = λ name row disk there. absurd (Contains-nil row there);
    disks = λ row there. absurd (Contains-nil row there);
    left = All-nil (IsUsedUp (start o));
    writers = λ g device found. absurd cc;
  };
}
  where
    is_whole : (content : Content) (bytes : Option (List ℕ)) → option_map Bytes bytes ≡ Some content → IsOfState None content
    is_whole content None e = absurd cc
    is_whole (Bytes b) (Some bytes) e = tt
    is_whole (Blank new len) (Some bytes) e = absurd cc
    is_whole Unknown (Some bytes) e = absurd cc

pub start_rests : (o : Opening) → StandsAtRest (start o)
start_rests o = record { stands = start_stands o; inline = (start_table_rests o.guests).inline }

-- the files hold what the store tells
pub start_agrees : (o : Opening) (c : Contents) → ((name : List ℕ) → c.held name ≡ bytes_named o.files name) → Agrees (bytes_named o.files) (start o) c
start_agrees o c held = record {
  disks = λ node row is disk. absurd cc;
  known = λ name content is. is_known content (bytes_named o.files name) (c.held name) (held name) (sym (found_bytes o.files name) ∙ is);
  absent = λ name none. held name ∙ is_absent (bytes_named o.files name) (sym (found_bytes o.files name) ∙ none);
  left = All-nil (IsLeftAs c);
  unchanged = λ name not_named. held name;
}
  where
    is_known : (content : Content) (bytes now : Option (List ℕ)) → now ≡ bytes → option_map Bytes bytes ≡ Some content → IsAsKnown content now
    is_known content None now e k = absurd cc
    is_known content (Some bytes) now e k = let same : Bytes bytes ≡ content = cc in subst (λ what. IsAsKnown what now) same e

    is_absent : (bytes : Option (List ℕ)) → option_map Bytes bytes ≡ None → bytes ≡ None
    is_absent None e = refl
    is_absent (Some bytes) e = absurd cc
