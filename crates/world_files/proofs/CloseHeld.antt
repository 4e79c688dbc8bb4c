-- What a file holds, by the node over it, is what the device of that file does.
use Rattle.std.proofs.Common.{◌≡◌, ◌⊎◌, ℕ, Bool, true, false, cond, List, [], ◌∷◌, refl, sym, ◌∙◌, ap, subst, inl, inr, Option, Some, None}
use Rattle.std.specs.Prelude.{IsSome, Contains, bytes_eq, find, option_map, option_and_then, unwrap_or, ◌==◌}
use Rattle.std.proofs.lemmas.Bool.{false≢true, eqb-true}
use Rattle.std.proofs.lemmas.Option.{same_Some}
use Rattle.std.proofs.lemmas.Slice.Eq.{bytes_eq-Decides}
use Rattle.blk_base.specs.declared.file.File.{File}
use Rattle.blk_graph.proofs.Members.{Contains-nil, Contains-cases, Contains-here, Contains-there, find-Some}
use Rattle.blk_nodes.specs.Nodes.{DeviceSeen, is_device_of, device_in}
use Rattle.qmp_rules.specs.declared.rows.NodeRecord.{NodeRecord}
use Rattle.qmp_rules.specs.Asks.{stands_for}
use Rattle.qmp_rules.specs.Table.{RunTable, node_by_id}
use Rattle.flat_machine.specs.State.{filename_of}
use Rattle.world_files.specs.Closing.{is_file_of, held_left}
use Rattle.world_parts.specs.Coherent.{AreHeld}
use Rattle.world_parts.specs.Face.{WorldSeen, held, held_in_file, device_numbered}
use Rattle.world_files.proofs.CloseLemmas.{AreOther, left-other}
use Rattle.world_parts.proofs.CountLemmas.{numbered}

pub none-passes : {A : Type 0} (p : A → Bool) (xs : List A) (x : A) → find p xs ≡ None → Contains xs x → p x ≡ true → ⊥
none-passes p [] x none there passes = Contains-nil x there
none-passes p (y ∷ xs) x none there passes = by_test (p y) refl none (none-passes p xs x)
  where
    by_test : (b : Bool) → p y ≡ b → cond b (Some y) (find p xs) ≡ None → (find p xs ≡ None → Contains xs x → p x ≡ true → ⊥) → ⊥
    by_test true e is more = let bad : ⊥ = cc is in bad
    by_test false e is more = elim (Contains-cases y xs x there) [
      | inl here ↦ false≢true (sym e ∙ ap p (sym here) ∙ passes)
      | inr later ↦ more is later passes
    ]

-- ---- the device of a file, by name

record IsDeviceOf (t : RunTable) (name : List ℕ) (device : DeviceSeen) : Type 0 where
  row : NodeRecord
  there : node_by_id t device.node ≡ Some row
  over : stands_for name row ≡ true
  named : filename_of t device.node ≡ Some name

device-of : (t : RunTable) (name : List ℕ) (device : DeviceSeen) → is_file_of t name device ≡ true → IsDeviceOf t name device
device-of t name device is = by_row (node_by_id t device.node) refl is
  where
    by_filename : (row : NodeRecord) → node_by_id t device.node ≡ Some row → (filename : Option (List ℕ)) → row.filename ≡ filename
        → unwrap_or (option_map (λ f. bytes_eq f name) filename) false ≡ true → IsDeviceOf t name device
    by_filename row found None none e = absurd (false≢true e)
    by_filename row found (Some f) some e =
        let same : f ≡ name = (bytes_eq-Decides f name).0 e in
        record {
          row = row;
          there = found;
          over = rw (some, e) refl;
          named = rw (found, some, same) refl;
        }

    by_row : (found : Option NodeRecord) → node_by_id t device.node ≡ found
        → unwrap_or (option_map (λ f. bytes_eq f name) (option_and_then (λ (row : NodeRecord). row.filename) found)) false ≡ true → IsDeviceOf t name device
    by_row None found e = absurd (false≢true e)
    by_row (Some row) found e = by_filename row found row.filename refl e

others-all : (t : RunTable) (name : List ℕ) (devices : List DeviceSeen) → ((device : DeviceSeen) → Contains devices device → is_file_of t name device ≡ true → ⊥) → AreOther t name devices
others-all t name [] none = tt
others-all t name (device ∷ devices) none =
    (by_test (is_file_of t name device) refl, others-all t name devices (λ other within. none other (Contains-there device devices other within)))
  where
    by_test : (b : Bool) → is_file_of t name device ≡ b → b ≡ false
    by_test true is = absurd (none device (Contains-here device devices) is)
    by_test false is = refl

left-found : (t : RunTable) (files : Option (List File)) (name : List ℕ) (devices : List DeviceSeen) (device : DeviceSeen) → Contains devices device → is_file_of t name device ≡ true
    → ((other : DeviceSeen) → Contains devices other → is_file_of t name other ≡ true → other ≡ device) → held_left t files devices name ≡ device.content
left-found t files name [] device there is only = absurd (Contains-nil device there)
left-found t files name (d ∷ devices) device there is only =
    by_test (is_file_of t name d) refl (Contains-cases d devices device there)
    (λ within. left-found t files name devices device within is (λ other w. only other (Contains-there d devices other w)))
  where
    by_test : (b : Bool) → is_file_of t name d ≡ b → ((device ≡ d) ⊎ Contains devices device) → (Contains devices device → held_left t files devices name ≡ device.content)
        → cond b d.content (held_left t files devices name) ≡ device.content
    by_test true e cases more = ap (λ (x : DeviceSeen). x.content) (only d (Contains-here d devices) e)
    by_test false e (inl here) more = absurd (false≢true (sym e ∙ ap (is_file_of t name) (sym here) ∙ is))
    by_test false e (inr within) more = more within

-- ---- by the node over it

module _ (w : WorldSeen) (out : AreHeld w.table w.nodes.devices w.opened)
    (apart : (row : NodeRecord) → Contains w.table.nodes row → node_by_id w.table row.id ≡ Some row)
    (have : (row : NodeRecord) → Contains w.table.nodes row → IsSome row.filename → IsSome (device_in w.nodes.devices row.id)) where
  -- no other device is of the file
  one-of : (name : List ℕ) (a b : DeviceSeen) → Contains w.nodes.devices a → Contains w.nodes.devices b → is_file_of w.table name a ≡ true → is_file_of w.table name b ≡ true → b ≡ a
  one-of name a b in-a in-b is-a is-b =
      let of-a = device-of w.table name a is-a in
      let of-b = device-of w.table name b is-b in
      let out-a = out.each a in-a in
      let out-b = out.each b in-b in
      let same-name : out-a.opening.name ≡ out-b.opening.name =
      same_Some out-a.opening.name out-b.opening.name (sym out-a.named ∙ of-a.named ∙ sym of-b.named ∙ out-b.named) in
      let place = out.names a.number.0 b.number.0 out-a.opening out-b.opening out-a.there out-b.there out-a.out out-b.out same-name in
      same_Some b a (sym (numbered w.nodes.devices b out.once in-b) ∙ ap (λ n. device_numbered w.nodes.devices n) (sym place) ∙ numbered w.nodes.devices a out.once in-a)

  pub held-is : (name : List ℕ) → held_left w.table w.files w.nodes.devices name ≡ held w name
  held-is name = by_row (find (stands_for name) w.table.nodes) refl
    where
      by_row : (found : Option NodeRecord) → find (stands_for name) w.table.nodes ≡ found
          → held_left w.table w.files w.nodes.devices name ≡ held_in_file w name (option_map (λ (row : NodeRecord). row.id) found)
      by_row None none =
          left-other w.table w.files w.nodes.devices name (others-all w.table name w.nodes.devices (λ device within is.
          let of = device-of w.table name device is in
          let there = find-Some (λ (row : NodeRecord). row.id == device.node) w.table.nodes of.row of.there in
          none-passes (stands_for name) w.table.nodes of.row none there.0 of.over))
      by_row (Some row) some =
          let found = find-Some (stands_for name) w.table.nodes row some in
          by_device (device_in w.nodes.devices row.id) refl (have row found.0 (filename-there row.filename refl found.1)) found.0 found.1
        where
          filename-there : (filename : Option (List ℕ)) → row.filename ≡ filename → stands_for name row ≡ true → IsSome row.filename
          filename-there None none is = absurd (false≢true (subst (λ f. unwrap_or (option_map (λ g. bytes_eq g name) f) false ≡ true) none is))
          filename-there (Some f) some is = subst IsSome (sym some) refl

          by_device : (device : Option DeviceSeen) → device_in w.nodes.devices row.id ≡ device → IsSome device → Contains w.table.nodes row → stands_for name row ≡ true
              → held_left w.table w.files w.nodes.devices name ≡ option_and_then (λ (d : DeviceSeen). d.content) device
          by_device None is there within over = absurd (false≢true there)
          by_device (Some device) is there within over =
              let at = find-Some (is_device_of row.id) w.nodes.devices device is in
              let node : device.node ≡ row.id = eqb-true device.node row.id at.1 in
              let its : is_file_of w.table name device ≡ true = rw (node, apart row within) over in
              left-found w.table w.files name w.nodes.devices device at.0 its (λ other inside is'. one-of name device other at.0 inside its is')
