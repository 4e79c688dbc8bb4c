-- Where all nodes read and all files hold the same, what is said of them is so.
use Rattle.std.proofs.Common.{ℕ, List, Option, refl, sym, ◌∙◌, subst}
use Rattle.std.specs.Prelude.{slice_index_or}
use Rattle.blk_history.specs.Fold.{With}
use Rattle.flat_machine.specs.Agreement.{Agrees, Contents, IsAsKnown}
use Rattle.flat_machine.specs.Final.{IsDiskIn}
use Rattle.flat_machine.specs.Imaging.{ShowsImages}
use Rattle.flat_machine.specs.Performing.{IsQuiet}
use Rattle.flat_machine.specs.State.{Left, State}
use Rattle.flat_machine.proofs.ImagesKept.{image_still}

module _ (s : State) (old new : Contents) (did : IsQuiet old new) where
  pub quiet_agrees : (opening : List ℕ → Option (List ℕ)) → Agrees opening s old → Agrees opening s new
  quiet_agrees opening was = record {
    disks = λ node row found disk. did.nodes node (λ never. never) ∙ was.disks node row found disk;
    known = λ name content found. subst (IsAsKnown content) (sym (did.files name (λ never. never))) (was.known name content found);
    absent = λ name none. did.files name (λ never. never) ∙ was.absent name none;
    left = λ k d within.
        let l : Left = slice_index_or s.left k d in
        subst (λ bytes. With bytes (IsDiskIn l.kind l.offset l.bytes)) (sym (did.files l.file (λ never. never))) (was.left k d within);
    unchanged = λ name other. did.files name (λ never. never) ∙ was.unchanged name other;
  }

  pub quiet_images : ShowsImages s old → ShowsImages s new
  quiet_images was node =
      image_still s s old new node
      (record { entry = refl; kind = refl; file = λ name image is. is; held = λ image name is. did.files name (λ never. never) }) (was node)
