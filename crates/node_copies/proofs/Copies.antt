-- A block that is read from one node and put to another.
use Rattle.std.proofs.Common.{◌≡◌, ℕ, true, false, List, refl, sym, ◌∙◌, ap, subst, inl}
use Rattle.std.specs.Prelude.{IsOk}
use Rattle.blk_base.specs.Content.{bytes_at}
use Rattle.blk_base.specs.Outcomes.{is_good}
use Rattle.blk_base.specs.Pieces.{Extent}
use Rattle.blk_base.specs.declared.fault.Outcome.{Outcome}
use Rattle.blk_base.specs.declared.fault.Outcome.TheVariants.{Good, Torn, Io, NoSpace}
use Rattle.blk_nodes.specs.Contents.{disk_of}
use Rattle.blk_nodes.specs.Found.{IsReadOfSource}
use Rattle.blk_nodes.specs.Nodes.{Nodes, AreTold}
use Rattle.blk_nodes.specs.Reading.{HaveRisen, IsReadBelow, ReadsDisk}
use Rattle.blk_nodes.specs.Sources.{source_at}
use Rattle.node_copies.specs.Putting.{CopiesBlock, CopiesBehind, IsPut, PutsRuns, answer_of}
use Rattle.node_copies.specs.Sectors.{runs_of}

ok_good : (o : Outcome) → IsOk (answer_of o) → o ≡ Good
ok_good Good is = refl
ok_good (Torn done dev count) is = absurd (cc is)
ok_good (Io dev count) is = absurd (cc is)
ok_good (NoSpace dev) is = absurd (cc is)

good_is : (o : Outcome) → is_good o ≡ true → o ≡ Good
good_is Good is = refl
good_is (Torn done dev count) is = absurd (cc is)
good_is (Io dev count) is = absurd (cc is)
good_is (NoSpace dev) is = absurd (cc is)

pub not_ok : (o : Outcome) → is_good o ≡ false → IsOk (answer_of o) → ⊥
not_ok o stopped is =
    let good : o ≡ Good = ok_good o is in
    let bad : true ≡ false = ap is_good (sym good) ∙ stopped in
    cc bad

module _ (old mid : Nodes) (from to : ℕ) (block : Extent) (sectors : ℕ) (read : Outcome) (bytes : List ℕ) (went : IsReadBelow old mid from read)
    (source : IsReadOfSource old.rows (source_at old from block.start) block old.devices mid.devices read) (kept : mid ≡ record old { devices = mid.devices })
    (risen : HaveRisen old.devices mid.devices)
    (found : AreTold old.devices → ReadsDisk read (disk_of old from) block bytes) where
  pub copies_stopped : is_good read ≡ false → CopiesBlock old mid from to block sectors (answer_of read)
  copies_stopped stopped = record {
    read = read;
    bytes = bytes;
    between = mid;
    went = went;
    source = source;
    kept = kept;
    risen = risen;
    found = found;
    behind = by read stopped;
  }
    where
      by : (o : Outcome) → is_good o ≡ false → CopiesBehind o mid mid to block sectors bytes (answer_of o)
      by Good is = absurd (cc is)
      by (Torn done dev count) is = (refl, refl)
      by (Io dev count) is = (refl, refl)
      by (NoSpace dev) is = (refl, refl)

  pub copies_put : is_good read ≡ true → (new : Nodes) (wrote : Outcome) → PutsRuns (runs_of block sectors) block mid new to bytes wrote
      → CopiesBlock old new from to block sectors (answer_of wrote)
  copies_put good new wrote puts =
      let P : Outcome → Type 0 = λ o. CopiesBehind o mid new to block sectors bytes (answer_of wrote) in
      record {
        read = read;
        bytes = bytes;
        between = mid;
        went = went;
        source = source;
        kept = kept;
        risen = risen;
        found = found;
        behind = subst P (sym (good_is read good)) (wrote, puts, refl);
      }

  pub read_same : is_good read ≡ true → mid ≡ old
  read_same good = subst (IsReadBelow old mid from) (good_is read good) went

  read_bytes : is_good read ≡ true → AreTold old.devices → bytes ≡ bytes_at (disk_of old from) block.start block.len
  read_bytes good told = subst (λ (o : Outcome). ReadsDisk o (disk_of old from) block bytes) (good_is read good) (found told)

  pub disk_put : is_good read ≡ true → AreTold old.devices → (new : Nodes) (wrote : Outcome)
      → (AreTold mid.devices → IsPut block sectors bytes (disk_of mid to) (disk_of new to) (wrote ≡ Good))
      → IsPut block sectors (bytes_at (disk_of old from) block.start block.len) (disk_of old to) (disk_of new to) (IsOk (answer_of wrote))
  disk_put good told new wrote put =
      let same = read_same good in
      let is = put (subst (λ (n : Nodes). AreTold n.devices) (sym same) told) in
      let P : List ℕ → List ℕ → Type 0 = λ d xs. IsPut block sectors xs d (disk_of new to) (IsOk (answer_of wrote)) in
      subst (λ (d : List ℕ). P d (bytes_at (disk_of old from) block.start block.len)) (ap (λ (n : Nodes). disk_of n to) same)
      (subst (P (disk_of mid to)) (read_bytes good told)
      (record { whole = is.whole; at = is.at; all = λ ok. is.all (ok_good wrote ok) }))

-- nothing was put
pub disk_left : (block : Extent) (sectors : ℕ) (bytes old new : List ℕ) (done : Type 0) → (done → ⊥) → new ≡ old → IsPut block sectors bytes old new done
disk_left block sectors bytes old new done never same =
    subst (λ (d : List ℕ). IsPut block sectors bytes old d done) (sym same)
    (record { whole = refl; at = λ place. inl refl; all = λ is. absurd (never is) })
