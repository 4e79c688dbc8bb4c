use Rattle.std.proofs.Common.{◌≡◌, length, take, drop, ◌++◌, ap, subst, arith}
use Rattle.blk_bits.proofs.LevelLemmas.{WordsKeep, keeps-bits_in, length-bits_in}
use Rattle.blk_bits.proofs.WriteLemmas.{put_back, AreWordsJoined, joined-has, joined-view, joined-used}
use Rattle.blk_bits.proofs.level.Level.add_all.Goals as goal

pub join-requires : goal.join-requires
join-requires c =
    omega (
      arith,
      ap length c.as_mut_slice.ensures.value,
      ap length c.as_slice.ensures.value,
      ap length c.self.view_is,
      ap length c.other.view_is,
      length-bits_in c.self.inside.count c.self.inside.words.items,
      length-bits_in c.other.inside.count c.other.inside.words.items,
      c.self.invariant.enough,
      c.other.invariant.enough,
    )

size : (c : goal.After-self-1) → length c.join.new.words ≡ length c.self.inside.words.items
size c = omega (arith, ap length c.as_mut_slice.ensures.value, c.join.auto.words)

whole : (c : goal.After-self-1) → take c.self.inside.words.len (c.join.new.words ++ drop (length c.join.new.words) c.self.inside.words.items) ≡ c.join.new.words
whole c = put_back c.self.inside.words.items c.join.new.words c.self.inside.words.len (size c) (omega (arith, ap length c.as_mut_slice.ensures.value, c.as_mut_slice.ensures.len))

joined : (c : goal.After-self-1) → AreWordsJoined c.args.self.now c.args.other.now c.self.inside.count c.self.inside.words.items c.other.inside.words.items c.join.new.words
joined c = record {
  view = c.self.view_is;
  has = c.self.invariant;
  keeps = subst (λ s. WordsKeep s c.other.inside.words.items) c.other.view_is (keeps-bits_in c.other.inside.count c.other.inside.words.items c.other.invariant);
  same = c.requires;
  size = size c;
  bits = λ k. rw (c.as_mut_slice.ensures.value, c.as_slice.ensures.value) at (c.join.ensures.written k);
  fits = c.join.ensures.fits;
}

pub invariant_of-self : goal.invariant_of-self
invariant_of-self c = rw (whole c) (joined-has _ _ _ _ _ _ (joined c))

pub returns-clause-written : goal.returns-clause-written
returns-clause-written c = rw (whole c) (joined-view _ _ _ _ _ _ (joined c))

pub returns-clause-above : goal.returns-clause-above
returns-clause-above c = rw (whole c) (joined-used _ _ _ _ _ _ (joined c))
