-- What a look at the store and at an image came to is what the files may tell.
use Rattle.std.proofs.Common.{◌≡◌, ℕ, true, false, List, length, refl, sym, subst, Some, None}
use Rattle.q2_format.specs.Header.{header_of}
use Rattle.qmp_codec.specs.declared.nodes.AddRaw.{AddRaw}
use Rattle.qmp_codec.specs.declared.nodes.AddQcow2.{AddQcow2}
use Rattle.qmp_codec.specs.declared.nodes.Added.TheVariants as added
use Rattle.qmp_codec.specs.declared.nodes.FileRef.TheVariants as file_ref
use Rattle.qmp_codec.specs.declared.nodes.InlineFile.{InlineFile}
use Rattle.qmp_asks.specs.declared.look.Look.{Look}
use Rattle.qmp_asks.specs.declared.look.Look.TheVariants as look
use Rattle.qmp_rules.specs.Looks.{add_told, absent_file, file_stop, first_stop, unfit_image, is_unopened, part_look, raw_stop, told_record}
use Rattle.qmp_rules.specs.declared.refusal.Refusal.{Refusal}
use Rattle.qmp_rules.specs.declared.refusal.Refusal.TheVariants as refusal
use Rattle.qmp_asks.specs.NodeAsks.{add_asks}
use Rattle.qmp_rules.specs.Answers.{told_none}
use Rattle.flat_machine.specs.State.{State, Bytes, content_in}
use Rattle.flat_machine.specs.Sights.{image_sight}
use Rattle.world_parts.specs.Adding.{Adding, Opens, look_in_vain}
use Rattle.world_additions.proofs.AddTold.{looks_at, has_look}
use Rattle.world_additions.proofs.AddRefused.{looks-file, looks-part, looks-image, has-file, has-part, has-part-look, has-opened}
use Rattle.world_additions.proofs.AddSights.{expects}

-- ---- which looks a command has, by the file that it opens

-- it opens that file, as one of three drivers
pub data OpensAs (c : Adding) (at : Opens) : Type 0 where
  AsFile : c.driver ≡ added.File at.filename → at.what ≡ look.File → OpensAs c at
  AsPart : (raw : AddRaw (List ℕ)) (file : InlineFile (List ℕ)) → c.driver ≡ added.Raw raw → raw.file ≡ file_ref.Inline file
      → file.filename ≡ at.filename → at.what ≡ part_look raw → OpensAs c at
  AsImage : (image : AddQcow2 (List ℕ)) (file : InlineFile (List ℕ)) → c.driver ≡ added.Qcow2 image → image.file ≡ file_ref.Inline file
      → file.filename ≡ at.filename → at.what ≡ look.File → OpensAs c at

pub looks-as : (c : Adding) (at : Opens) → OpensAs c at → looks_at at.what (add_asks c) ≡ true
looks-as c at (AsFile e what) = subst (λ (w : Look). looks_at w (add_asks c) ≡ true) (sym what) (looks-file c at.filename e)
looks-as c at (AsPart raw file e f name what) = subst (λ (w : Look). looks_at w (add_asks c) ≡ true) (sym what) (looks-part c raw file e f)
looks-as c at (AsImage image file e f name what) = subst (λ (w : Look). looks_at w (add_asks c) ≡ true) (sym what) (looks-image c image file e f)

has-as : (c : Adding) (at : Opens) → OpensAs c at → has_look look.File (add_asks c) ≡ true
has-as c at (AsFile e what) = has-file c at.filename e
has-as c at (AsPart raw file e f name what) = has-part c raw file e f
has-as c at (AsImage image file e f name what) = (has-opened c image file e f).0

pub has-at : (c : Adding) (at : Opens) → OpensAs c at → has_look at.what (add_asks c) ≡ true
has-at c at (AsFile e what) = subst (λ (w : Look). has_look w (add_asks c) ≡ true) (sym what) (has-file c at.filename e)
has-at c at (AsPart raw file e f name what) = subst (λ (w : Look). has_look w (add_asks c) ≡ true) (sym what) (has-part-look c raw file e f)
has-at c at (AsImage image file e f name what) = subst (λ (w : Look). has_look w (add_asks c) ≡ true) (sym what) (has-opened c image file e f).0

-- a file that isn't opened is refused at a look that is asked for
pub has-vain : (c : Adding) (at : Opens) → OpensAs c at → (why : Refusal) → has_look (look_in_vain at.what why) (add_asks c) ≡ true
has-vain c at opener (refusal.Io source count) = has-at c at opener
has-vain c at opener _ = has-as c at opener

-- ---- what is told of it

module _ (s : State) (c : Adding) (at : Opens) where
  pub expects-closed : OpensAs c at → is_unopened s.table at.filename ≡ true → expects s c ≡ told_none
  unfolding add_told
  expects-closed (AsFile e what) closed = rw (e, closed) refl
  expects-closed (AsPart raw file e f name what) closed = rw (e, f, name, closed) refl
  expects-closed (AsImage image file e f name what) closed = rw (e, f, name, closed) refl

  pub expects-absent : OpensAs c at → is_unopened s.table at.filename ≡ false → content_in s.files at.filename ≡ None
      → expects s c ≡ told_record None None (absent_file at.filename)
  unfolding add_told
  expects-absent (AsFile e what) free none = rw (e, free, none) refl
  expects-absent (AsPart raw file e f name what) free none = rw (e, f, name, free, none) refl
  expects-absent (AsImage image file e f name what) free none = rw (e, f, name, free, none) refl

module _ (s : State) (c : Adding) (filename bytes : List ℕ) (free : is_unopened s.table filename ≡ false)
    (known : content_in s.files filename ≡ Some (Bytes bytes)) where
  pub expects-file : c.driver ≡ added.File filename → expects s c ≡ told_record (Some (length bytes)) None (file_stop filename (length bytes))
  unfolding add_told
  expects-file e = rw (e, free, known) refl

  pub expects-part : (raw : AddRaw (List ℕ)) (file : InlineFile (List ℕ)) → c.driver ≡ added.Raw raw → raw.file ≡ file_ref.Inline file
      → file.filename ≡ filename → expects s c ≡ told_record (Some (length bytes)) None (raw_stop filename raw (length bytes))
  unfolding add_told
  expects-part raw file e f name = rw (e, f, name, free, known) refl

  pub expects-image : (image : AddQcow2 (List ℕ)) (file : InlineFile (List ℕ)) → c.driver ≡ added.Qcow2 image → image.file ≡ file_ref.Inline file
      → file.filename ≡ filename → expects s c ≡ told_record (Some (length bytes)) (Some (header_of bytes).size)
      (first_stop (file_stop filename (length bytes)) (unfit_image s.table c.node_name image (image_sight (Bytes bytes))))
  unfolding add_told
  expects-image image file e f name = rw (e, f, name, free, known) refl
