-- Which guests have a device is what the entries say.
use Rattle.std.proofs.Common.{◌≡◌, ◌≢◌, ◌⊎◌, ℕ, zero, suc, ◌+◌, ◌≤◌, ◌<◌, ◌==◌, Bool, true, false, not, cond, List, [], ◌∷◌, ◌++◌, length, refl, sym, ◌∙◌, ap, subst, arith, Option, Some, None, Result, Ok, Err, inl, inr, append-nil}
use Rattle.std.specs.Prelude.{◌&&◌, ◌||◌, if◌then◌else◌, Contains, bytes_eq, find, is_none, is_some, unwrap_or}
use Rattle.std.proofs.lemmas.Bool.{false≢true, cases_eq, eq-eqb, eqb-true, ne_eqb}
use Rattle.std.specs.List.{list_any}
use Rattle.flat_machine.proofs.Finds.{same-bytes_eq, bytes_eq-same}
use Rattle.serde_json.specs.Data.{Data, object, no_members}
use Rattle.serde_json.specs.Written.{compact_text}
use Rattle.json.specs.Print.{escape_byte}
use Rattle.qmp_codec.specs.Commands.{Cmd}
use Rattle.qmp_codec.specs.Lines.{Stop, command_at, id_at}
use Rattle.qmp_codec.specs.Replies.{returned_data, refused_data}
use Rattle.qmp_codec.specs.declared.reply.Class.{Class}
use Rattle.qmp_codec.specs.declared.command.Command.TheVariants as command
use Rattle.qmp_codec.specs.declared.nodes.DeviceAdd.{DeviceAdd}
use Rattle.qmp_rules.specs.declared.change.Change.{Change}
use Rattle.qmp_rules.specs.declared.change.Change.TheVariants as change
use Rattle.qmp_rules.specs.declared.refusal.Refusal.{Refusal}
use Rattle.qmp_rules.specs.declared.refusal.Refusal.TheVariants as refusal
use Rattle.qmp_rules.specs.Refusals.{refusal_class, refusal_text, or_else}
use Rattle.qmp_rules.specs.declared.rows.DeviceRow.{DeviceRow}
use Rattle.qmp_rules.specs.declared.rows.NodeRecord.{NodeRecord}
use Rattle.qmp_rules.specs.declared.told.Told.{Told}
use Rattle.qmp_rules.specs.Answers.{Answer, accepted, refused_so, out_of_turn, refusal_behind, unbuilt, answer, answer_for, command_edits, left_by, line_answer, line_refusal, line_text, refusal_to, returned}
use Rattle.qmp_rules.specs.Changes.{all_changed, changed, without_device}
use Rattle.qmp_rules.specs.Edits.{device_number, device_uses, edits_of, new_device, place_from, unused_from}
use Rattle.qmp_rules.specs.Table.{RunTable, device_by_number, device_named, node_named}
use Rattle.qmp_asks.specs.CommandAsks.{asks_of, negotiates}
use Rattle.flat_machine.proofs.Asked.{NoneHolds, none-both, none-holds, found-named, not-refused}
use Rattle.blk_graph.proofs.Members.{find-Some}
use Rattle.qmp_rules.specs.Asks.{first_unmet_ask, holds}
use Rattle.flat_machine.specs.Wiring.{AreNumbered, IsNumberBy}
use Rattle.blk_history.specs.Fold.{run}
use Rattle.qblk_run.specs.Devices.{HaveDevices, has_device, has_after, plain_reply, with_command}
use Rattle.blk_history.specs.declared.event.Event.{Event}
use Rattle.blk_history.specs.declared.event.Event.TheVariants.{Admit, Refuse, Piece, Retire, Reply, Reached, Start, Ready, End, Done}
use Rattle.blk_base.specs.declared.memory.Room.{Room}
use Rattle.trace_codec.specs.declared.op.Op.{Op}
use Rattle.trace_codec.specs.declared.op.Op.TheVariants.{Read, Write, Zero, Flush, Discard}
use Rattle.qmp_rules.specs.Chains.{disk_node, written_under}
use Rattle.flat_machine.specs.Courses.{Course, course_after}
use Rattle.flat_machine.specs.Entries.{all_of}
use Rattle.flat_machine.specs.Jobs.{outcome_of}
use Rattle.trace_codec.specs.Script.{Order}
use Rattle.flat_machine.specs.declared.opening.Opening.{Opening}
use Rattle.std.proofs.lemmas.List.{append_assoc}
use Rattle.world_parts.specs.Comes.{Comes}
use Rattle.world_parts.specs.Face.{WorldSeen}
use Rattle.world_parts.specs.Piecing.{table_after}
use Rattle.world_parts.specs.Steps.{StoreSeen, new_world}
use Rattle.qblk_run.specs.Worlds.{AreStartsBehind, GoesThrough, IsLeftAlone, IsLeftBy, MakesEvent}
use Rattle.qblk_run.proofs.EndsLeave.{end-leaves, ready-leaves}
use Rattle.qblk_run.proofs.Falling.{uneventful-kept}
use Rattle.qblk_run.proofs.Worlds.{guarded-kept}
use Rattle.qblk_run.proofs.LeftDevices.{IsOfDevice, SameDevices, all-leave, leave-command, leave-device-uses, leave-left}

-- ---- texts

-- a refusal's text is no reply to a line that is accepted
texts-apart : (id : Option Data) (class : Class) (desc : List ℕ) → bytes_eq (compact_text (refused_data id class desc)) (compact_text (returned_data id (object no_members))) ≡ false
unfolding escape_byte
texts-apart None class desc = refl
texts-apart (Some id) class desc = refl

-- ---- a device more

place-below : (k : ℕ) (name : List ℕ) (names : List (List ℕ)) (place : ℕ) → place_from k name names ≡ Some place → place < k + length names
place-below k name [] place is = absurd cc
place-below k name (other ∷ names) place is = by_test (bytes_eq other name) is (place-below (k + 1) name names place)
  where
    by_test : (b : Bool) → cond b (Some k) (place_from (k + 1) name names) ≡ Some place
        → (place_from (k + 1) name names ≡ Some place → place < (k + 1) + length names) → place < k + suc (length names)
    by_test true e rest = let same : k ≡ place = cc in omega arith
    by_test false e rest = let less = rest e in omega arith

place-above : (k : ℕ) (name : List ℕ) (names : List (List ℕ)) (place : ℕ) → place_from k name names ≡ Some place → k ≤ place
place-above k name [] place is = absurd cc
place-above k name (other ∷ names) place is = by_test (bytes_eq other name) is (place-above (k + 1) name names place)
  where
    by_test : (b : Bool) → cond b (Some k) (place_from (k + 1) name names) ≡ Some place
        → (place_from (k + 1) name names ≡ Some place → k + 1 ≤ place) → k ≤ place
    by_test true e rest = let same : k ≡ place = cc in omega arith
    by_test false e rest = let less = rest e in omega arith

-- at one place stands one name
place-same : (k : ℕ) (a b : List ℕ) (names : List (List ℕ)) (place : ℕ) → place_from k a names ≡ Some place → place_from k b names ≡ Some place → a ≡ b
place-same k a b [] place is_a is_b = absurd cc
place-same k a b (other ∷ names) place is_a is_b =
    by_tests (bytes_eq other a) refl (bytes_eq other b) refl is_a is_b (place-same (k + 1) a b names place)
    (place-above (k + 1) a names place) (place-above (k + 1) b names place)
  where
    by_tests : (p : Bool) → bytes_eq other a ≡ p → (q : Bool) → bytes_eq other b ≡ q
        → cond p (Some k) (place_from (k + 1) a names) ≡ Some place → cond q (Some k) (place_from (k + 1) b names) ≡ Some place
        → (place_from (k + 1) a names ≡ Some place → place_from (k + 1) b names ≡ Some place → a ≡ b)
        → (place_from (k + 1) a names ≡ Some place → k + 1 ≤ place) → (place_from (k + 1) b names ≡ Some place → k + 1 ≤ place) → a ≡ b
    by_tests true e true f is_a is_b rest above_a above_b = sym (same-bytes_eq other a e) ∙ same-bytes_eq other b f
    by_tests true e false f is_a is_b rest above_a above_b =
        let same : k ≡ place = cc in let less = above_b is_b in absurd (omega arith)
    by_tests false e true f is_a is_b rest above_a above_b =
        let same : k ≡ place = cc in let less = above_a is_a in absurd (omega arith)
    by_tests false e false f is_a is_b rest above_a above_b = rest is_a is_b

unused-above : (n k : ℕ) (devices : List DeviceRow) → k ≤ unused_from n k devices
unused-above zero k devices = omega arith
unused-above (suc n) k devices = by_test (list_any (λ d. d.number == k) devices) (unused-above n (k + 1) devices)
  where
    by_test : (b : Bool) → k + 1 ≤ unused_from n (k + 1) devices → k ≤ (if b then unused_from n (k + 1) devices else k)
    by_test true rest = omega arith
    by_test false rest = omega arith

-- a device of this id has a guest's number exactly where it has its name
number-is : (guests : List (List ℕ)) (number : ℕ) (id name : List ℕ) (g : ℕ) → place_from 0 name guests ≡ Some g → IsNumberBy (length guests) number (place_from 0 id guests)
    → (number == g) ≡ bytes_eq id name
number-is guests number id name g named is = by_place (place_from 0 id guests) refl is
  where
    apart : id ≢ name → bytes_eq id name ≡ false
    apart differ = by_test (bytes_eq id name) refl
      where
        by_test : (b : Bool) → bytes_eq id name ≡ b → b ≡ false
        by_test true e = absurd (differ (same-bytes_eq id name e))
        by_test false e = refl

    by_place : (place : Option ℕ) → place_from 0 id guests ≡ place → IsNumberBy (length guests) number place → (number == g) ≡ bytes_eq id name
    by_place None none above =
        let below = place-below 0 name guests g named in
        let past : (number == g) ≡ false = ne_eqb number g (λ same. absurd (omega (arith, above, below, same))) in
        past ∙ sym (apart (λ same. let bad : None ≡ Some g = sym none ∙ ap (λ (n : List ℕ). place_from 0 n guests) same ∙ named in let no : ⊥ = cc bad in no))
    by_place (Some place) some same = by_cases (cases_eq place g)
      where
        by_cases : (place ≡ g) ⊎ (place ≢ g) → (number == g) ≡ bytes_eq id name
        by_cases (inl at) =
            let is_name : id ≡ name = place-same 0 id name guests g (some ∙ ap (λ (n : ℕ). Some n) at) named in
            eq-eqb number g (same ∙ at) ∙ sym (ap (bytes_eq id) (sym is_name) ∙ bytes_eq-same id)
        by_cases (inr past) =
            ne_eqb number g (λ is. past (sym same ∙ is))
            ∙ sym (apart (λ is. let at : Some place ≡ Some g = sym some ∙ ap (λ (n : List ℕ). place_from 0 n guests) is ∙ named in let no : place ≡ g = cc at in past no))

found-push : (number : ℕ) (devices : List DeviceRow) (d : DeviceRow) → is_some (find (λ x. x.number == number) (devices ++ d ∷ [])) ≡ ((d.number == number) || is_some (find (λ x. x.number == number) devices))
found-push number [] d = by_test (d.number == number)
  where
    by_test : (b : Bool) → is_some (if b then Some d else None) ≡ (b || false)
    by_test true = refl
    by_test false = refl
found-push number (x ∷ devices) d = by_test (x.number == number) (d.number == number) (found-push number devices d)
  where
    by_test : (b c : Bool) → is_some (find (λ y. y.number == number) (devices ++ d ∷ [])) ≡ (c || is_some (find (λ y. y.number == number) devices))
        → is_some (if b then Some x else find (λ y. y.number == number) (devices ++ d ∷ [])) ≡ (c || is_some (if b then Some x else find (λ y. y.number == number) devices))
    by_test true true rest = refl
    by_test true false rest = refl
    by_test false c rest = rest

found-gone : (gone number : ℕ) (devices : List DeviceRow) → is_some (find (λ x. x.number == number) (without_device gone devices)) ≡ (not (gone == number) && is_some (find (λ x. x.number == number) devices))
found-gone gone number [] = by_test (gone == number)
  where
    by_test : (b : Bool) → false ≡ (not b && false)
    by_test true = refl
    by_test false = refl
found-gone gone number (x ∷ devices) = by_test (x.number == gone) refl (gone == number) refl (found-gone gone number devices)
  where
    found : List DeviceRow → Bool
    found ds = is_some (find (λ y. y.number == number) ds)

    kept : (c : Bool) → (x.number == gone) ≡ false → (gone == number) ≡ c → found (without_device gone devices) ≡ (not c && found devices)
        → (b : Bool) → (x.number == number) ≡ b → is_some (if b then Some x else find (λ y. y.number == number) (without_device gone devices)) ≡ (not c && is_some (if b then Some x else find (λ y. y.number == number) devices))
    kept true e h rest true f = absurd (false≢true (sym e ∙ eq-eqb x.number gone (eqb-true x.number number f ∙ sym (eqb-true gone number h))))
    kept false e h rest true f = refl
    kept c e h rest false f = rest

    went : (c : Bool) → (x.number == gone) ≡ true → (gone == number) ≡ c → found (without_device gone devices) ≡ (not c && found devices)
        → (b : Bool) → (x.number == number) ≡ b → found (without_device gone devices) ≡ (not c && is_some (if b then Some x else find (λ y. y.number == number) devices))
    went true e h rest b f = rest
    went false e h rest true f = absurd (false≢true (sym h ∙ eq-eqb gone number (sym (eqb-true x.number gone e) ∙ eqb-true x.number number f)))
    went false e h rest false f = rest

    by_test : (a : Bool) → (x.number == gone) ≡ a → (c : Bool) → (gone == number) ≡ c → found (without_device gone devices) ≡ (not c && found devices)
        → found (if not a then x ∷ without_device gone devices else without_device gone devices) ≡ (not c && found (x ∷ devices))
    by_test true e c h rest = went c e h rest (x.number == number) refl
    by_test false e c h rest = kept c e h rest (x.number == number) refl

-- ---- one entry

-- the table of a run: its guests, whose devices have their numbers, and who has one
pub record AreDevices (guests : List (List ℕ)) (h : List Event) (t : RunTable) : Type 0 where
  pub names : t.guests ≡ guests
  pub have : (name : List ℕ) (g : ℕ) → place_from 0 name guests ≡ Some g → is_some (device_by_number t g) ≡ has_device name h

run-push : {S E : Type 0} (step : S → E → S) (s : S) (h : List E) (e : E) → run step s (h ++ e ∷ []) ≡ step (run step s h) e
run-push step s [] e = refl
run-push step s (a ∷ h) e = run-push step (step s a) h e

-- an entry that says nothing of devices, and leaves them
same-devices : (guests : List (List ℕ)) (h : List Event) (e : Event) (t u : RunTable) → SameDevices t u → ((name : List ℕ) (has : Bool) → has_after name has e ≡ has)
    → AreDevices guests h t → AreDevices guests (h ++ e ∷ []) u
same-devices guests h e t u same silent was = record {
  names = same.guests ∙ was.names;
  have = λ name g named.
      ap (λ (ds : List DeviceRow). is_some (find (λ d. d.number == g) ds)) same.devices ∙ was.have name g named
      ∙ sym (run-push (has_after name) false h e ∙ silent name (has_device name h));
}

module _ (guests : List (List ℕ)) (h : List Event) (line : ℕ) (given text : List ℕ) (command' : Option Cmd) (t : RunTable) (told : Told) (numbers : AreNumbered t) (was : AreDevices guests h t) where
  accepted-says : (c : Cmd) → command_at given ≡ Ok c → refusal_to t told c ≡ None → text ≡ line_text t told given → returned t told c ≡ object no_members → bytes_eq text (plain_reply given) ≡ true
  unfolding answer line_answer line_text
  accepted-says c is none says plain =
      let reply : text ≡ plain_reply given = says ∙ rw (is, none, plain) refl in
      rw reply (bytes_eq-same (plain_reply given))

  refused-says : (c : Cmd) (cause : Refusal) → command_at given ≡ Ok c → refusal_to t told c ≡ Some cause → text ≡ line_text t told given → bytes_eq text (plain_reply given) ≡ false
  unfolding answer line_answer line_text
  refused-says c cause is some says =
      let reply : text ≡ compact_text (refused_data (id_at given) (refusal_class cause) (refusal_text cause)) = says ∙ rw (is, some) refl in
      rw reply (texts-apart (id_at given) (refusal_class cause) (refusal_text cause))

  -- of which commands nothing is given: those of devices
  plain-of : (c : Cmd) → IsOfDevice c → returned t told c ≡ object no_members
  plain-of (command.DeviceAdd c) of = refl
  plain-of (command.DeviceDel id) of = refl
  plain-of (command.Capabilities enable) of = absurd of
  plain-of (command.BlockdevCreate c) of = absurd of
  plain-of (command.JobDismiss id) of = absurd of
  plain-of (command.BlockdevAdd c) of = absurd of
  plain-of (command.BlockdevDel name) of = absurd of
  plain-of (command.BlockdevSnapshot c) of = absurd of
  plain-of (command.BlockStream c) of = absurd of
  plain-of (command.BlockCommit c) of = absurd of
  plain-of (command.BlockdevMirror c) of = absurd of
  plain-of (command.BlockdevBackup c) of = absurd of
  plain-of (command.BlockJobCancel job force) of = absurd of
  plain-of (command.BlockJobComplete job) of = absurd of
  plain-of (command.BitmapAdd c) of = absurd of
  plain-of (command.BitmapRemove c) of = absurd of
  plain-of (command.BitmapClear c) of = absurd of
  plain-of (command.BitmapEnable c) of = absurd of
  plain-of (command.BitmapDisable c) of = absurd of
  plain-of (command.BitmapMerge c) of = absurd of
  plain-of (command.Transaction c) of = absurd of
  plain-of command.QueryBlockJobs of = absurd of
  plain-of (command.QueryNamedBlockNodes flat) of = absurd of

  -- no other command speaks of a guest's device
  silent-of : (c : Cmd) → (IsOfDevice c → ⊥) → (name : List ℕ) (has : Bool) → with_command name has (Ok c) ≡ has
  silent-of (command.DeviceAdd c) other name has = absurd (other tt)
  silent-of (command.DeviceDel id) other name has = absurd (other tt)
  silent-of (command.Capabilities enable) other name has = refl
  silent-of (command.BlockdevCreate c) other name has = refl
  silent-of (command.JobDismiss id) other name has = refl
  silent-of (command.BlockdevAdd c) other name has = refl
  silent-of (command.BlockdevDel node) other name has = refl
  silent-of (command.BlockdevSnapshot c) other name has = refl
  silent-of (command.BlockStream c) other name has = refl
  silent-of (command.BlockCommit c) other name has = refl
  silent-of (command.BlockdevMirror c) other name has = refl
  silent-of (command.BlockdevBackup c) other name has = refl
  silent-of (command.BlockJobCancel job force) other name has = refl
  silent-of (command.BlockJobComplete job) other name has = refl
  silent-of (command.BitmapAdd c) other name has = refl
  silent-of (command.BitmapRemove c) other name has = refl
  silent-of (command.BitmapClear c) other name has = refl
  silent-of (command.BitmapEnable c) other name has = refl
  silent-of (command.BitmapDisable c) other name has = refl
  silent-of (command.BitmapMerge c) other name has = refl
  silent-of (command.Transaction c) other name has = refl
  silent-of command.QueryBlockJobs other name has = refl
  silent-of (command.QueryNamedBlockNodes flat) other name has = refl

  entry : Event
  entry = Reply line given command' text

  -- whatever it says where it is not accepted
  silent-by : (b : Bool) → bytes_eq text (plain_reply given) ≡ b → ((name : List ℕ) (has : Bool) → with_command name has (command_at given) ≡ has)
      → (name : List ℕ) (has : Bool) → has_after name has (Reply line given command' text) ≡ has
  silent-by true e silent name has = rw e (silent name has)
  silent-by false e silent name has = rw e refl

  silent-refused : bytes_eq text (plain_reply given) ≡ false → (name : List ℕ) (has : Bool) → has_after name has (Reply line given command' text) ≡ has
  silent-refused e name has = rw e refl

  -- a device more
  added-devices : (c : DeviceAdd (List ℕ)) (u : RunTable) (row : NodeRecord) → command_at given ≡ Ok (command.DeviceAdd c) → bytes_eq text (plain_reply given) ≡ true
      → u.devices ≡ t.devices ++ new_device t c row ∷ [] → u.guests ≡ t.guests → AreDevices guests (h ++ Reply line given command' text ∷ []) u
  added-devices c u row is accepted devices names = record { names = names ∙ was.names; have = have }
    where
      its-number : (place : Option ℕ) → place_from 0 c.id guests ≡ place → IsNumberBy (length guests) (unwrap_or place (unused_from 64 (length guests) t.devices)) place
      its-number None none = unused-above 64 (length guests) t.devices
      its-number (Some place) some = refl

      number : IsNumberBy (length guests) (device_number t c.id) (place_from 0 c.id guests)
      number = rw was.names (its-number (place_from 0 c.id guests) refl)

      have : (name : List ℕ) (g : ℕ) → place_from 0 name guests ≡ Some g → is_some (device_by_number u g) ≡ has_device name (h ++ Reply line given command' text ∷ [])
      have name g named =
          ap (λ (ds : List DeviceRow). is_some (find (λ d. d.number == g) ds)) devices
          ∙ found-push g t.devices (new_device t c row)
          ∙ ap (λ (b : Bool). b || is_some (device_by_number t g)) (number-is guests (device_number t c.id) c.id name g named number)
          ∙ ap (λ (b : Bool). bytes_eq c.id name || b) (was.have name g named)
          ∙ sym (run-push (has_after name) false h (Reply line given command' text) ∙ rw (accepted, is) refl)

  -- and one less
  gone-devices : (id : List ℕ) (u : RunTable) (device : DeviceRow) → command_at given ≡ Ok (command.DeviceDel id) → bytes_eq text (plain_reply given) ≡ true
      → Contains t.devices device → device.id ≡ id → u.devices ≡ without_device device.number t.devices → u.guests ≡ t.guests → AreDevices guests (h ++ Reply line given command' text ∷ []) u
  gone-devices id u device is accepted there called devices names = record { names = names ∙ was.names; have = have }
    where
      number : IsNumberBy (length guests) device.number (place_from 0 id guests)
      number = rw (← called, ← was.names) (numbers device there)

      have : (name : List ℕ) (g : ℕ) → place_from 0 name guests ≡ Some g → is_some (device_by_number u g) ≡ has_device name (h ++ Reply line given command' text ∷ [])
      have name g named =
          ap (λ (ds : List DeviceRow). is_some (find (λ d. d.number == g) ds)) devices
          ∙ found-gone device.number g t.devices
          ∙ ap (λ (b : Bool). not b && is_some (device_by_number t g)) (number-is guests device.number id name g named number)
          ∙ ap (λ (b : Bool). not (bytes_eq id name) && b) (was.have name g named)
          ∙ sym (run-push (has_after name) false h (Reply line given command' text) ∙ rw (accepted, is) refl)

-- ---- what an accepted command asked

all-then : (t : RunTable) (xs ys : List Change) → all_changed t (xs ++ ys) ≡ all_changed (all_changed t xs) ys
all-then t [] ys = refl
all-then t (c ∷ xs) ys = all-then (changed t c) xs ys

asks-met : (t : RunTable) (told : Told) (c : Cmd) → refusal_to t told c ≡ None → NoneHolds t told (asks_of c)
unfolding refusal_to
asks-met t told c none =
    let built = none-both (unbuilt c) (or_else (out_of_turn (negotiates c) t.negotiated) (or_else (first_unmet_ask t told (asks_of c)) (refusal_behind t told c))) none in
    let turn = none-both (out_of_turn (negotiates c) t.negotiated) (or_else (first_unmet_ask t told (asks_of c)) (refusal_behind t told c)) built.1 in
    let asks = none-both (first_unmet_ask t told (asks_of c)) (refusal_behind t told c) turn.1 in
    none-holds t told (asks_of c) asks.0

drive-there : (t : RunTable) (told : Told) (c : DeviceAdd (List ℕ)) → refusal_to t told (command.DeviceAdd c) ≡ None → (row : NodeRecord) × (node_named t c.drive ≡ Some row)
unfolding asks_of
drive-there t told c none =
    let asks = asks-met t told (command.DeviceAdd c) none in
    found-named t told c.drive asks.1.1.1.1.0

device-there : (t : RunTable) (told : Told) (id : List ℕ) → refusal_to t told (command.DeviceDel id) ≡ None → (device : DeviceRow) × (device_named t id ≡ Some device)
unfolding asks_of holds
device-there t told id none =
    let asks = asks-met t told (command.DeviceDel id) none in
    by_device (device_named t id) refl (not-refused (is_none (device_named t id)) (refusal.NotFound id true) asks.1.0)
  where
    by_device : (found : Option DeviceRow) → device_named t id ≡ found → is_none found ≡ false → (device : DeviceRow) × (device_named t id ≡ Some device)
    by_device None e k = absurd cc
    by_device (Some device) e k = (device, e)

-- what it leaves
device-added : (t : RunTable) (told : Told) (c : DeviceAdd (List ℕ)) (row : NodeRecord) → node_named t c.drive ≡ Some row
    → ((all_changed t (command_edits t told (command.DeviceAdd c))).devices ≡ t.devices ++ new_device t c row ∷ [])
    × ((all_changed t (command_edits t told (command.DeviceAdd c))).guests ≡ t.guests)
unfolding edits_of changed
device-added t told c row found =
    let used = all-leave t (device_uses row) (leave-device-uses row) in
    let edits : command_edits t told (command.DeviceAdd c) ≡ device_uses row ++ change.AddDevice (new_device t c row) row.id ∷ [] = rw found refl in
    let split = all-then t (device_uses row) (change.AddDevice (new_device t c row) row.id ∷ []) in (
      rw (edits, split) (ap (λ (ds : List DeviceRow). ds ++ new_device t c row ∷ []) used.devices),
      rw (edits, split) used.guests,
    )

device-gone : (t : RunTable) (told : Told) (id : List ℕ) (device : DeviceRow) → device_named t id ≡ Some device
    → ((all_changed t (command_edits t told (command.DeviceDel id))).devices ≡ without_device device.number t.devices)
    × ((all_changed t (command_edits t told (command.DeviceDel id))).guests ≡ t.guests)
unfolding edits_of changed
device-gone t told id device found =
    let edits : command_edits t told (command.DeviceDel id) ≡ change.RemoveDevice device.number ∷ [] = by_device (device_named t id) found in
    (rw edits refl, rw edits refl)
  where
    by_device : (x : Option DeviceRow) → x ≡ Some device
        → elim x as (λ _. List Change) [ None ↦ [] | Some d ↦ change.RemoveDevice d.number ∷ [] ] ≡ change.RemoveDevice device.number ∷ []
    by_device None is = let bad : ⊥ = cc is in absurd bad
    by_device (Some d) is = let same : d ≡ device = cc is in ap (λ (x : DeviceRow). change.RemoveDevice x.number ∷ []) same

-- ---- a reply

module _ (guests : List (List ℕ)) (h : List Event) (line : ℕ) (given text : List ℕ) (command' : Option Cmd) (t u : RunTable) (told : Told) (numbers : AreNumbered t) (was : AreDevices guests h t)
    (says : text ≡ line_text t told given) where
  other-reply : (c : Cmd) → command_at given ≡ Ok c → (IsOfDevice c → ⊥) → u ≡ all_changed t (command_edits t told c) → AreDevices guests (h ++ Reply line given command' text ∷ []) u
  other-reply c is other kept =
      rw kept (same-devices guests h (Reply line given command' text) t (all_changed t (command_edits t told c)) (all-leave t (command_edits t told c) (leave-command t told c other))
      (silent-by guests h line given text command' t told numbers was (bytes_eq text (plain_reply given)) refl (λ name has. rw is (silent-of guests h line given text command' t told numbers was c other name has))) was)

  accepted-reply : (c : Cmd) → command_at given ≡ Ok c → refusal_to t told c ≡ None → u ≡ all_changed t (command_edits t told c) → AreDevices guests (h ++ Reply line given command' text ∷ []) u
  accepted-reply (command.DeviceAdd c) is none kept =
      let row = drive-there t told c none in
      let left = device-added t told c row.0 row.1 in
      added-devices guests h line given text command' t told numbers was c u row.0 is (accepted-says guests h line given text command' t told numbers was (command.DeviceAdd c) is none says refl)
      (ap (λ (x : RunTable). x.devices) kept ∙ left.0) (ap (λ (x : RunTable). x.guests) kept ∙ left.1)
  accepted-reply (command.DeviceDel id) is none kept =
      let device = device-there t told id none in
      let left = device-gone t told id device.0 device.1 in
      let there = find-Some (λ d. bytes_eq d.id id) t.devices device.0 device.1 in
      gone-devices guests h line given text command' t told numbers was id u device.0 is (accepted-says guests h line given text command' t told numbers was (command.DeviceDel id) is none says refl)
      there.0 (same-bytes_eq device.0.id id there.1) (ap (λ (x : RunTable). x.devices) kept ∙ left.0) (ap (λ (x : RunTable). x.guests) kept ∙ left.1)
  accepted-reply (command.Capabilities enable) is none kept = other-reply (command.Capabilities enable) is (λ of. of) kept
  accepted-reply (command.BlockdevCreate c) is none kept = other-reply (command.BlockdevCreate c) is (λ of. of) kept
  accepted-reply (command.JobDismiss id) is none kept = other-reply (command.JobDismiss id) is (λ of. of) kept
  accepted-reply (command.BlockdevAdd c) is none kept = other-reply (command.BlockdevAdd c) is (λ of. of) kept
  accepted-reply (command.BlockdevDel node) is none kept = other-reply (command.BlockdevDel node) is (λ of. of) kept
  accepted-reply (command.BlockdevSnapshot c) is none kept = other-reply (command.BlockdevSnapshot c) is (λ of. of) kept
  accepted-reply (command.BlockStream c) is none kept = other-reply (command.BlockStream c) is (λ of. of) kept
  accepted-reply (command.BlockCommit c) is none kept = other-reply (command.BlockCommit c) is (λ of. of) kept
  accepted-reply (command.BlockdevMirror c) is none kept = other-reply (command.BlockdevMirror c) is (λ of. of) kept
  accepted-reply (command.BlockdevBackup c) is none kept = other-reply (command.BlockdevBackup c) is (λ of. of) kept
  accepted-reply (command.BlockJobCancel job force) is none kept = other-reply (command.BlockJobCancel job force) is (λ of. of) kept
  accepted-reply (command.BlockJobComplete job) is none kept = other-reply (command.BlockJobComplete job) is (λ of. of) kept
  accepted-reply (command.BitmapAdd c) is none kept = other-reply (command.BitmapAdd c) is (λ of. of) kept
  accepted-reply (command.BitmapRemove c) is none kept = other-reply (command.BitmapRemove c) is (λ of. of) kept
  accepted-reply (command.BitmapClear c) is none kept = other-reply (command.BitmapClear c) is (λ of. of) kept
  accepted-reply (command.BitmapEnable c) is none kept = other-reply (command.BitmapEnable c) is (λ of. of) kept
  accepted-reply (command.BitmapDisable c) is none kept = other-reply (command.BitmapDisable c) is (λ of. of) kept
  accepted-reply (command.BitmapMerge c) is none kept = other-reply (command.BitmapMerge c) is (λ of. of) kept
  accepted-reply (command.Transaction c) is none kept = other-reply (command.Transaction c) is (λ of. of) kept
  accepted-reply command.QueryBlockJobs is none kept = other-reply command.QueryBlockJobs is (λ of. of) kept
  accepted-reply (command.QueryNamedBlockNodes flat) is none kept = other-reply (command.QueryNamedBlockNodes flat) is (λ of. of) kept

  pub reply-devices : u ≡ all_changed t (line_answer t told given).changes → AreDevices guests (h ++ Reply line given command' text ∷ []) u
  unfolding answer line_answer
  reply-devices kept = by_line (command_at given) refl
    where
      by_refusal : (c : Cmd) → command_at given ≡ Ok c → (first' : Option Refusal) → refusal_to t told c ≡ first' → AreDevices guests (h ++ Reply line given command' text ∷ []) u
      by_refusal c is None none = accepted-reply c is none (kept ∙ rw (is, none) refl)
      by_refusal c is (Some cause) some =
          let changes : (line_answer t told given).changes ≡ left_by t c cause = rw (is, some) refl in
          rw (kept, changes)
          (same-devices guests h (Reply line given command' text) t (all_changed t (left_by t c cause)) (all-leave t (left_by t c cause) (leave-left t c cause))
          (silent-refused guests h line given text command' t told numbers was (refused-says guests h line given text command' t told numbers was c cause is some says)) was)

      none-changed : (x : Option Refusal)
          → all_changed t (elim x as (λ _. Answer) [ None ↦ accepted [] (object no_members) | Some cause ↦ refused_so [] cause ]).changes ≡ t
      none-changed None = refl
      none-changed (Some cause) = refl

      by_line : (r : Result Cmd Stop) → command_at given ≡ r → AreDevices guests (h ++ Reply line given command' text ∷ []) u
      by_line (Ok c) is = by_refusal c is (refusal_to t told c) refl
      by_line (Err why) is =
          let same : u ≡ t = kept ∙ ap (λ (r : Result Cmd Stop). all_changed t (answer_for t told given r).changes) is ∙ none-changed (line_refusal t given why) in
          rw same
          (same-devices guests h (Reply line given command' text) t t (record { devices = refl; guests = refl })
          (silent-by guests h line given text command' t told numbers was (bytes_eq text (plain_reply given)) refl (λ name has. rw is refl)) was)

-- ---- each event, and all of them

same-after : (op : Op) (node : ℕ) (t : RunTable) → SameDevices t (table_after op node t)
unfolding written_under
same-after (Read span) node t = record { devices = refl; guests = refl }
same-after (Write span payload) node t = record { devices = refl; guests = refl }
same-after (Zero span) node t = record { devices = refl; guests = refl }
same-after Flush node t = record { devices = refl; guests = refl }
same-after (Discard span) node t = record { devices = refl; guests = refl }

-- an entry that is no reply says nothing of devices
silent-alone : (w v : WorldSeen) (e : Event) → IsLeftAlone w v e → (name : List ℕ) (has : Bool) → has_after name has e ≡ has
silent-alone w v (Reply line given command' text) left name has = absurd left
silent-alone w v _ left name has = refl

leaves-alone : (w v : WorldSeen) (e : Event) → IsLeftAlone w v e → SameDevices w.table v.table
leaves-alone w v (Admit g r op) left = rw left.1 (record { devices = refl; guests = refl })
leaves-alone w v (Refuse g r op why) left = rw left.1 (record { devices = refl; guests = refl })
leaves-alone w v (Piece g r k outcome got) left =
    let x = left.makes.between in
    let made = left.makes.made in
    let before : x.table ≡ w.table = ap (λ (u : WorldSeen). u.table) (guarded-kept w x g left.flight left.makes.guarded) in
    subst (SameDevices w.table) (sym (ap (λ (u : WorldSeen). u.table) made.kept))
    (subst (λ (t : RunTable). SameDevices t (table_after left.flight.op (disk_node x.table made.drive) x.table)) before
    (same-after left.flight.op (disk_node x.table made.drive) x.table))
leaves-alone w v (Retire g r) left = rw left (record { devices = refl; guests = refl })
leaves-alone w v (Reached line what) left = rw left (record { devices = refl; guests = refl })
leaves-alone w v (Done actor) left = rw left (record { devices = refl; guests = refl })
leaves-alone w v (End job why offset) left =
    let leaves = end-leaves w.table left.row (outcome_of why) in
    subst (SameDevices w.table) (sym (ap (λ (u : WorldSeen). u.table) left.ends.kept)) (record { devices = leaves.devices; guests = leaves.guests })
leaves-alone w v (Start job) left = absurd left
leaves-alone w v (Ready job) left =
    let leaves = ready-leaves w.table left.row in
    subst (SameDevices w.table) (sym (ap (λ (u : WorldSeen). u.table) left.readies.kept)) (record { devices = leaves.devices; guests = leaves.guests })
leaves-alone w v (Reply line given command' text) left = absurd left

-- nor does the start of a job
starts-devices : (guests : List (List ℕ)) (h : List Event) (t : RunTable) (w v : WorldSeen) (es : List Event) → AreStartsBehind t w v es
    → AreDevices guests h w.table → AreDevices guests (h ++ es) v.table
starts-devices guests h t w v [] begins was = rw (append-nil h, begins.kept) was
starts-devices guests h t w v (Start job ∷ []) begins was =
    same-devices guests h (Start job) w.table v.table (rw begins.0.begins.kept (record { devices = refl; guests = refl })) (λ name has. refl) was
starts-devices guests h t w v (Start job ∷ e ∷ es) begins was = absurd begins
starts-devices guests h t w v (Admit g r op ∷ es) begins was = absurd begins
starts-devices guests h t w v (Refuse g r op why ∷ es) begins was = absurd begins
starts-devices guests h t w v (Piece g r k outcome got ∷ es) begins was = absurd begins
starts-devices guests h t w v (Retire g r ∷ es) begins was = absurd begins
starts-devices guests h t w v (Reply line given command' text ∷ es) begins was = absurd begins
starts-devices guests h t w v (Reached line what ∷ es) begins was = absurd begins
starts-devices guests h t w v (Ready job ∷ es) begins was = absurd begins
starts-devices guests h t w v (End job outcome offset ∷ es) begins was = absurd begins
starts-devices guests h t w v (Done actor ∷ es) begins was = absurd begins

alone-devices : (guests : List (List ℕ)) (h : List Event) (w v : WorldSeen) (e : Event) (es : List Event) → (es ≡ []) × IsLeftAlone w v e
    → AreDevices guests h w.table → AreDevices guests (h ++ e ∷ es) v.table
alone-devices guests h w v e es left was =
    subst (λ (behind : List Event). AreDevices guests (h ++ e ∷ behind) v.table) (sym left.0)
    (same-devices guests h e w.table v.table (leaves-alone w v e left.1) (silent-alone w v e left.1) was)

event-devices : (guests : List (List ℕ)) (h : List Event) (o : Opening) (w v : WorldSeen) (e : Event) (es : List Event) → Comes o w → IsLeftBy w v e es
    → AreDevices guests h w.table → AreDevices guests (h ++ e ∷ es) v.table
event-devices guests h o w v (Reply line given command' text) es comes left was =
    let between = left.between in
    let said = reply-devices guests h line given text command' w.table between.table left.replied.told comes.coherent.table.stands.numbers was left.says left.replied.table in
    subst (λ (all : List Event). AreDevices guests all v.table) (append_assoc h (Reply line given command' text ∷ []) es)
    (starts-devices guests (h ++ Reply line given command' text ∷ []) w.table between v es left.begins said)
event-devices guests h o w v (Admit g r op) es comes left was = alone-devices guests h w v (Admit g r op) es left was
event-devices guests h o w v (Refuse g r op why) es comes left was = alone-devices guests h w v (Refuse g r op why) es left was
event-devices guests h o w v (Piece g r k outcome got) es comes left was = alone-devices guests h w v (Piece g r k outcome got) es left was
event-devices guests h o w v (Retire g r) es comes left was = alone-devices guests h w v (Retire g r) es left was
event-devices guests h o w v (Reached line what) es comes left was = alone-devices guests h w v (Reached line what) es left was
event-devices guests h o w v (Start job) es comes left was = alone-devices guests h w v (Start job) es left was
event-devices guests h o w v (Ready job) es comes left was = alone-devices guests h w v (Ready job) es left was
event-devices guests h o w v (End job outcome offset) es comes left was = alone-devices guests h w v (End job outcome offset) es left was
event-devices guests h o w v (Done actor) es comes left was = alone-devices guests h w v (Done actor) es left was

made-devices : (guests : List (List ℕ)) (h : List Event) (o : Opening) (orders : List Order) (w v : WorldSeen) (es : List Event) → Comes o w → MakesEvent orders w v es
    → AreDevices guests h w.table → AreDevices guests (h ++ es) v.table
made-devices guests h o orders w v [] comes made was =
    subst (λ (all : List Event). AreDevices guests all v.table) (sym (append-nil h))
    (subst (AreDevices guests h) (sym (ap (λ (u : WorldSeen). u.table) (uneventful-kept orders w v made))) was)
made-devices guests h o orders w v (e ∷ es) comes made was = event-devices guests h o w v e es comes made.left was

through-devices : (guests : List (List ℕ)) (o : Opening) (c : Course) (w v : WorldSeen) (before : List Event) (events : List (List Event)) → GoesThrough o c w events v
    → AreDevices guests before w.table → AreDevices guests (before ++ all_of events) v.table
through-devices guests o c w v before [] through was = rw (append-nil before, through.0) was
through-devices guests o c w v before (es ∷ events) through was =
    let x = through.0 in
    let next = made-devices guests before o c.script w x es through.1 through.2 was in
    subst (λ (all : List Event). AreDevices guests all v.table) (append_assoc before es (all_of events))
    (through-devices guests o (course_after c es) x v (before ++ es) events through.3 next)

-- a run from its beginning
pub run-devices : (o : Opening) (c : Course) (store : StoreSeen) (guests : List (List ℕ)) (room : Room) (events : List (List Event)) (v : WorldSeen)
    → GoesThrough o c (new_world store guests room) events v → HaveDevices guests (all_of events) v.table
run-devices o c store guests room events v through =
    (through-devices guests o c (new_world store guests room) v [] events through (record { names = refl; have = λ name g named. refl })).have
