-- What the world's call of an addition leaves.
use Rattle.std.proofs.Common.{◌≡◌, ℕ, true, List, refl, sym, subst, arith, Option, Ok, Err}
use Rattle.std.specs.Prelude.{Result, IfOk, IfSome, OnErr}
use Rattle.blk_base.specs.declared.fault.FaultAt.{FaultAt}
use Rattle.blk_nodes.specs.Joined.{IsJoined}
use Rattle.qmp_codec.specs.Commands.{Cmd}
use Rattle.qmp_codec.specs.declared.command.Command.TheVariants as command
use Rattle.qmp_rules.specs.Table.{RunTable}
use Rattle.flat_machine.specs.Bitmaps.{AreBitmapsOf}
use Rattle.world_parts.specs.Carrying.{HasFailed, IsCarriedAs, IsPutBackBy}
use Rattle.world_parts.specs.Coherent.{AreDrainsKept, AreJobsKept, IsWholeWorld}
use Rattle.world_parts.specs.Face.{WorldSeen}
use Rattle.world_parts.specs.Looking.{Site}
use Rattle.world_additions.specs.Additions.{CanLook, IsAdditionBy, IsNotAddedBy, is_addition}
use Rattle.world_parts.specs.Staging.{site_of}
use Rattle.world_additions.proofs.AddAccount.{accounted, runs-so}
use Rattle.world_additions.proofs.AddCarried.{sited}
use Rattle.world_additions.proofs.AddClosed.{closed-in}
use Rattle.world_additions.proofs.AddCounts.{put-hides}
use Rattle.world_additions.proofs.AddEnds.{carried-as, carried-both}
use Rattle.world_additions.proofs.AddPut.{put-back, put-both, put-fault, put-runs, put-so}
use Rattle.world_parts.proofs.BitmapsLeft.{left-listed}
use Rattle.world_parts.proofs.JobsAnswered.{drains_kept, jobs_kept}

pub can-look : (w : WorldSeen) → IsWholeWorld w → CanLook w.table (site_of w)
can-look w whole = record {
  alike = whole.coherent.alike;
  rests = whole.coherent.table;
  closed = λ name unopened. closed-in w.table w.nodes w.opened name whole.coherent.out unopened;
}

module _ (w : WorldSeen) (whole : IsWholeWorld w) (joined : IsJoined w.nodes) (given : List ℕ) (x : Site) (u : RunTable) where
  carried-by : (text : List ℕ) (c : Cmd) → is_addition c ≡ true → IsAdditionBy w.table given c (site_of w) x u text
      → IsCarriedAs w (sited w x u) given c text
  carried-by text (command.BlockdevAdd c) sure is =
      carried-as w whole.coherent whole.tell joined whole.bitmaps given c x u text is (accounted w whole joined given c x u text is)
  carried-by text c sure is = absurd (let bad : ⊥ = cc sure in bad)

  whole-by : (text : List ℕ) (c : Cmd) → is_addition c ≡ true → IsAdditionBy w.table given c (site_of w) x u text → IsWholeWorld (sited w x u)
  whole-by text (command.BlockdevAdd c) sure is =
      let both = carried-both w whole.coherent whole.tell joined whole.bitmaps given c x u text is in
      let carried = carried-as w whole.coherent whole.tell joined whole.bitmaps given c x u text is (accounted w whole joined given c x u text is) in
      let runs = runs-so w whole joined given c x u text is in
      let store = runs.store in
      let counted = whole.counted in
      record {
        coherent = both.0;
        tell = both.1;
        counted = omega (arith, store, counted);
        bitmaps = left-listed w.table carried.carried.told (command.BlockdevAdd c) w.bitmaps u refl carried.carried.table whole.bitmaps;
        jobs = jobs_kept w whole joined (command.BlockdevAdd c) carried.carried.told u (λ accepted. record { one = tt; none = refl }) carried.carried.table;
        drains = drains_kept w whole joined (command.BlockdevAdd c) carried.carried.told u (λ accepted. record { one = tt; none = refl }) carried.carried.table;
      }
  whole-by text c sure is = absurd (let bad : ⊥ = cc sure in bad)

  put-by : (c : Cmd) → is_addition c ≡ true → IsNotAddedBy w.table c (site_of w) x → u ≡ w.table → IsPutBackBy w (sited w x u) c × IsWholeWorld (sited w x u)
  put-by (command.BlockdevAdd c) sure is table =
      let put = put-so w whole.coherent whole.tell x c is in
      let hides = put-hides w whole joined c x u (put-runs w whole.coherent whole.tell x put u) is in
      let back = put-back w whole.coherent whole.tell x put u table hides.0 hides.1 in
      let both = put-both w whole.coherent whole.tell x put in
      let store = back.runs.store in
      let counted = whole.counted in (
        record {
          back = back;
          site = is;
          failed = subst (λ (f : Option FaultAt). IfSome f (λ fault. HasFailed w (sited w x u) (command.BlockdevAdd c) fault.from fault.count))
              (sym (put-fault w whole.coherent whole.tell x put u table hides.0 hides.1)) hides.2;
        },
        record {
          coherent = back.coherent whole.coherent;
          tell = both.1;
          counted = omega (arith, store, counted);
          bitmaps = subst (λ (t : RunTable). AreBitmapsOf t.bitmaps w.bitmaps) (sym table) whole.bitmaps;
          jobs = subst (λ (t : RunTable). AreJobsKept t w.works w.progress.aside) (sym table) whole.jobs;
          drains = subst (λ (t : RunTable). AreDrainsKept t w.drains) (sym table) whole.drains;
        },
      )
  put-by c sure is table = absurd (let bad : ⊥ = cc sure in bad)

  module _ {A E : Type 0} (r : Result A E) (text : A → List ℕ) (c : Cmd) (sure : is_addition c ≡ true) where
    pub addition-texts : IfOk r (λ a. IsAdditionBy w.table given c (site_of w) x u (text a)) → IfOk r (λ a. IsCarriedAs w (sited w x u) given c (text a))
    addition-texts is = by_result r is
      where
        by_result : (r : Result A E) → IfOk r (λ a. IsAdditionBy w.table given c (site_of w) x u (text a)) → IfOk r (λ a. IsCarriedAs w (sited w x u) given c (text a))
        by_result (Ok a) is = carried-by (text a) c sure is
        by_result (Err e) is = is

    pub addition-back : OnErr r (IsNotAddedBy w.table c (site_of w) x) → OnErr r (u ≡ w.table) → OnErr r (IsPutBackBy w (sited w x u) c)
    addition-back is same = by_result r is same
      where
        by_result : (r : Result A E) → OnErr r (IsNotAddedBy w.table c (site_of w) x) → OnErr r (u ≡ w.table) → OnErr r (IsPutBackBy w (sited w x u) c)
        by_result (Ok a) is same = is
        by_result (Err e) is same = (put-by c sure is same).0

    pub addition-whole : IfOk r (λ a. IsAdditionBy w.table given c (site_of w) x u (text a)) → OnErr r (IsNotAddedBy w.table c (site_of w) x)
        → OnErr r (u ≡ w.table) → IsWholeWorld (sited w x u)
    addition-whole ok back same = by_result r ok back same
      where
        by_result : (r : Result A E) → IfOk r (λ a. IsAdditionBy w.table given c (site_of w) x u (text a)) → OnErr r (IsNotAddedBy w.table c (site_of w) x)
            → OnErr r (u ≡ w.table) → IsWholeWorld (sited w x u)
        by_result (Ok a) ok back same = whole-by (text a) c sure ok
        by_result (Err e) ok back same = (put-by c sure back same).1
