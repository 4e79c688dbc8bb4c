-- Changes in turn: when all of a list can be made, keep images over their files, and leave nodes and files as they are.
use Rattle.std.proofs.Common.{List, [], ◌∷◌, ◌++◌, refl, sym, subst, append_assoc}
use Rattle.qmp_rules.specs.declared.change.Change.{Change}
use Rattle.flat_machine.specs.State.{State}
use Rattle.flat_machine.specs.Changed.{stepped, all_stepped}
use Rattle.flat_machine.specs.Agreement.{Contents}
use Rattle.flat_machine.specs.Performing.{IsQuiet, Performed, AllCan, AllPerformed}
use Rattle.flat_machine.proofs.CopyStarts.{can-append}

-- three lists, as they stand one behind another
pub can-three : (a b c : List Change) (s : State) → AllCan s a → AllCan (all_stepped s a) b → AllCan (all_stepped (all_stepped s a) b) c → AllCan s (a ++ b ++ c)
can-three a b c s h k l = subst (AllCan s) (sym (append_assoc a b c)) (can-append a (b ++ c) s h (can-append b c (all_stepped s a) k l))

-- ---- changes of which nothing is to be seen

pub quiet_self : (c : Contents) → IsQuiet c c
quiet_self c = record { nodes = λ node other. refl; files = λ name other. refl }

-- each was performed where nothing changes
abbrev pub AllStill : State → List Change → Contents → Type 0
AllStill s [] c = Unit {0}
AllStill s (x ∷ changes) c = Performed s x c c × AllStill (stepped s x) changes c

pub still-append : (a b : List Change) (s : State) (c : Contents) → AllStill s a c → AllStill (all_stepped s a) b c → AllStill s (a ++ b) c
still-append [] b s c h k = k
still-append (x ∷ a) b s c h k = (h.0, still-append a b (stepped s x) c h.1 k)

pub still-three : (a b d : List Change) (s : State) (c : Contents) → AllStill s a c → AllStill (all_stepped s a) b c
    → AllStill (all_stepped (all_stepped s a) b) d c → AllStill s (a ++ b ++ d) c
still-three a b d s c h k l =
    subst (λ changes. AllStill s changes c) (sym (append_assoc a b d)) (still-append a (b ++ d) s c h (still-append b d (all_stepped s a) c k l))

-- so they were all, beside a change that isn't seen either, or before others
pub still_quiet : (changes : List Change) (s : State) (old new : Contents) → AllStill s changes old → IsQuiet old new → AllPerformed s changes old new
still_quiet [] s old new h q = q
still_quiet (x ∷ changes) s old new h q = (old, h.0, still_quiet changes (stepped s x) old new h.1 q)

pub still_then : (a b : List Change) (s : State) (old new : Contents) → AllStill s a old → AllPerformed (all_stepped s a) b old new
    → AllPerformed s (a ++ b) old new
still_then [] b s old new h k = k
still_then (x ∷ a) b s old new h k = (old, h.0, still_then a b (stepped s x) old new h.1 k)
