use Rattle.std.proofs.Common.{ℕ, List, Option, Some, None}
use Rattle.blk_base.specs.Files.{IfTold}
use Rattle.blk_base.specs.declared.file.File.{File}
use Rattle.blk_history.specs.Fold.{With}
use Rattle.qblk_core.specs.declared.status.InputWhy.{InputWhy}
use Rattle.qblk_inputs.specs.Inputs.{HasWork, IsRefusedInput, Work}
use Rattle.qblk_words.specs.Words.{Cast}
use Rattle.qblk_inputs.specs.declared.stop.InputFlaw.{InputFlaw}
use Rattle.qblk_run.specs.Run.{IsInputRefused, Setting}
use Rattle.qblk_run.proofs.GoodInputs.{inputs-taken}
use Rattle.qblk_run.proofs.laws.good_inputs_are_taken.Goals as goal

told-taken : (cast : Cast) (work : Work) (name : List ℕ) (line : ℕ) (flaw : InputFlaw) (files : Option (List File)) → With files (HasWork cast work)
    → IfTold files (IsRefusedInput cast name line flaw) → ⊥
told-taken cast work name line flaw None none refused = none
told-taken cast work name line flaw (Some files) good refused = inputs-taken cast work name line flaw files good refused

not-refused : (cast : Cast) (work : Work) (old new : Setting) (name : List ℕ) (line : ℕ) (why : InputWhy) → With old.store.files (HasWork cast work)
    → IsInputRefused cast old new name line why → ⊥
not-refused cast work old new name line why good (written, same, (flaw, is, speaks, refused)) = told-taken cast work name line flaw old.store.files good refused

pub returns : goal.returns
returns c = λ cast work old new name line why good refused. not-refused cast work old new name.bytes line why good refused
