-- For want of memory an addition leaves the world as it was, but for openings that are over and counts.
use Rattle.std.proofs.Common.{◌≡◌, ◌⊎◌, ℕ, ◌≤◌, List, [], ◌∷◌, ◌++◌, inl, inr, refl, sym, ◌∙◌, ap, subst, arith, Option, Some, None}
use Rattle.std.specs.Prelude.{is_some}
use Rattle.blk_base.specs.declared.fault.FaultAt.{FaultAt}
use Rattle.blk_base.specs.declared.file.File.{File}
use Rattle.blk_base.specs.declared.file.Opened.{Opened}
use Rattle.qmp_codec.specs.declared.nodes.Added.{Added}
use Rattle.qmp_rules.specs.Table.{RunTable}
use Rattle.world_parts.specs.Adding.{Adding, IsBackIfOut, Opens, Taken, opens}
use Rattle.world_parts.specs.Carrying.{IsPutBack}
use Rattle.world_parts.specs.Coherent.{DevicesTell, IsCoherent}
use Rattle.world_parts.specs.Counting.{HidesNoFault, LeavesNoneOut, RunsOn}
use Rattle.world_parts.specs.Face.{WorldSeen}
use Rattle.world_parts.specs.Looking.{HasCalled, IsLookedBack, Site, StoreIsBack, site}
use Rattle.world_parts.specs.Staging.{IsNotAdded, back_if, opened_name, site_of, store_of}
use Rattle.world_parts.specs.Stores.{StoreInRun}
use Rattle.world_additions.proofs.AddBack.{alike-called, coherent-put, out-closed, told-risen}
use Rattle.world_additions.proofs.AddCarried.{sited}
use Rattle.world_additions.proofs.AddClosed.{closed-in}
use Rattle.world_additions.proofs.AddKinds.{IsLookedSo, looked-so}
use Rattle.world_parts.proofs.Uncalled.{called_itself}
use Rattle.world_additions.proofs.AddRuns.{back-is, closed-opening, runs-opened}
use Rattle.world_additions.proofs.AddRunsOn.{runs-still}
use Rattle.world_parts.proofs.CountLemmas.{not-fallen, out-same, same-risen}

-- the store, but for its count and which call failed last
pub record IsCounted (old new : StoreInRun) : Type 0 where
  pub is : new ≡ record old { faults = new.faults; failed_call = new.failed_call }
  pub faults : old.faults ≤ new.faults

-- or with an opening that is over
pub record IsOverAgain (old new : StoreInRun) : Type 0 where
  pub opening : Opened
  pub count : ℕ
  pub back : opening.returned ≡ Some count
  pub is : new ≡ record old { opened = old.opened ++ opening ∷ [] }

pub record IsPutSo (w : WorldSeen) (x : Site) : Type 0 where
  pub store : IsCounted (store_of w) x.store ⊎ IsOverAgain (store_of w) x.store
  pub called : HasCalled w.nodes x.nodes

module _ (w : WorldSeen) (coherent : IsCoherent w.table w.nodes w.opened w.progress) (tell : DevicesTell w.files w.nodes.devices) (x : Site) where
  -- ---- what it leaves

  module _ (put : IsPutSo w x) where
    same-files : x.store.files ≡ w.files
    same-files = by_store put.store
      where
        by_store : IsCounted (store_of w) x.store ⊎ IsOverAgain (store_of w) x.store → x.store.files ≡ w.files
        by_store (inl counted) = ap (λ (s : StoreInRun). s.files) counted.is
        by_store (inr over) = ap (λ (s : StoreInRun). s.files) over.is

    still : IsCoherent w.table x.nodes w.opened w.progress
    still =
        coherent-put w.table w.nodes x.nodes w.opened w.opened w.progress coherent (alike-called w.table w.nodes x.nodes put.called coherent.alike)
        (out-same w.table w.nodes x.nodes w.opened (same-risen w.nodes.devices x.nodes.devices put.called.risen) coherent.out)

    pub put-both : IsCoherent w.table x.nodes x.store.opened w.progress × DevicesTell x.store.files x.nodes.devices
    put-both = (
      by_store put.store,
      λ told. told-risen w.nodes.devices x.nodes.devices put.called.risen (tell (ap (λ (f : Option (List File)). is_some f) (sym same-files) ∙ told)),
    )
      where
        by_store : IsCounted (store_of w) x.store ⊎ IsOverAgain (store_of w) x.store → IsCoherent w.table x.nodes x.store.opened w.progress
        by_store (inl counted) =
            subst (λ (o : List Opened). IsCoherent w.table x.nodes o w.progress) (sym (ap (λ (s : StoreInRun). s.opened) counted.is)) still
        by_store (inr over) =
            subst (λ (o : List Opened). IsCoherent w.table x.nodes o w.progress) (sym (ap (λ (s : StoreInRun). s.opened) over.is))
            (coherent-put w.table x.nodes x.nodes w.opened (w.opened ++ over.opening ∷ []) w.progress still still.alike
            (out-closed w.table x.nodes w.opened over.opening over.count over.back still.out))

    pub put-runs : (u : RunTable) → RunsOn w (sited w x u)
    put-runs u = by_store put.store
      where
        by_store : IsCounted (store_of w) x.store ⊎ IsOverAgain (store_of w) x.store → RunsOn w (sited w x u)
        by_store (inl counted) =
            runs-still w (sited w x u) (ap (λ (s : StoreInRun). is_some s.files) counted.is) (ap (λ (s : StoreInRun). s.room) counted.is) refl
            (ap (λ (s : StoreInRun). s.earlier) counted.is) counted.faults (ap (λ (s : StoreInRun). s.opened) counted.is)
            (same-risen w.nodes.devices x.nodes.devices put.called.risen)
        by_store (inr over) =
            let faults : x.store.faults ≡ w.faults = ap (λ (s : StoreInRun). s.faults) over.is in
            runs-opened w (sited w x u) (ap (λ (s : StoreInRun). is_some s.files) over.is) (ap (λ (s : StoreInRun). s.room) over.is) refl
            (ap (λ (s : StoreInRun). s.earlier) over.is) (omega (arith, faults)) over.opening (ap (λ (s : StoreInRun). s.opened) over.is)
            (not-fallen w.nodes.devices x.nodes.devices (same-risen w.nodes.devices x.nodes.devices put.called.risen) w.opened 0)

    none-out : LeavesNoneOut w.opened x.store.opened
    none-out = by_store put.store
      where
        by_store : IsCounted (store_of w) x.store ⊎ IsOverAgain (store_of w) x.store → LeavesNoneOut w.opened x.store.opened
        by_store (inl counted) = inl (ap (λ (s : StoreInRun). s.opened) counted.is)
        by_store (inr over) =
            inr (record { opening = over.opening; is = ap (λ (s : StoreInRun). s.opened) over.is; back = ap (λ (r : Option ℕ). is_some r) over.back })

    pub put-back : (u : RunTable) → u ≡ w.table → (fault : Option FaultAt) → HidesNoFault w (sited w x u) fault → IsPutBack w (sited w x u)
    put-back u table fault hides = record {
      table = table;
      progress = refl;
      bitmaps = refl;
      drains = refl;
      works = refl;
      runs = put-runs u;
      files = same-files;
      called = put.called;
      opens = none-out;
      fault = fault;
      hides = hides;
      coherent = λ was. subst (λ (t : RunTable). IsCoherent t x.nodes x.store.opened w.progress) (sym table) put-both.0;
    }

    -- its fault is that one
    pub put-fault : (u : RunTable) (table : u ≡ w.table) (fault : Option FaultAt) (hides : HidesNoFault w (sited w x u) fault)
        → (put-back u table fault hides).fault ≡ fault
    unfolding put-back
    put-fault u table fault hides = refl

  -- ---- how it comes to that

  counted-same : x.store ≡ store_of w → IsCounted (store_of w) x.store
  counted-same same = record {
    is = subst (λ (s : StoreInRun). s ≡ record (store_of w) { faults = s.faults; failed_call = s.failed_call }) (sym same) refl;
    faults = (let n = ap (λ (s : StoreInRun). s.faults) same in omega (arith, n));
  }

  looked-back : (driver : Added (List ℕ)) → IsLookedBack driver (site_of w) x → IsPutSo w x
  looked-back driver is = record { store = by_opens (opens driver) is.store; called = subst (HasCalled w.nodes) (sym is.kept) (called_itself w.nodes) }
    where
      by_back : (name : List ℕ) → IsBackIfOut (store_of w) x.store name → IsCounted (store_of w) x.store ⊎ IsOverAgain (store_of w) x.store
      by_back name (inl same) = inl (counted-same same)
      by_back name (inr again) =
          inr
          (record {
            opening = closed-opening (store_of w) again.between name again.first again.first again.out refl again.inside;
            count = again.first.faults;
            back = refl;
            is = again.is ∙ back-is (store_of w) again.between name again.first again.first again.out refl again.inside;
          })

      by_opens : (at : Option Opens) → StoreIsBack at (store_of w) x.store → IsCounted (store_of w) x.store ⊎ IsOverAgain (store_of w) x.store
      by_opens None same = inl (counted-same same)
      by_opens (Some at) back = by_back at.filename back

  put-looked : (now : Site) (driver : Added (List ℕ)) (out : Option Taken) → IsLookedSo (opened_name driver) (site_of w) now out
      → x ≡ site (back_if driver out now.store) now.nodes → IsPutSo w x
  put-looked now driver out (inl called) is =
      let store : x.store ≡ now.store =
      ap (λ (y : Site). y.store) is ∙ ap (λ (o : Option Taken). back_if driver o now.store) called.none in
      record {
        store = inl
            (record {
              is = subst (λ (s : StoreInRun). s ≡ record (store_of w) { faults = s.faults; failed_call = s.failed_call }) (sym store) called.store;
              faults = subst (λ (s : StoreInRun). w.faults ≤ s.faults) (sym store) called.faults;
            });
        called = subst (HasCalled w.nodes) (sym (ap (λ (y : Site). y.nodes) is)) called.called;
      }
  put-looked now driver out (inr opened) is = record {
    store = inr
        (record {
          opening = closed-opening (store_of w) now.store (opened_name driver) opened.first opened.device opened.taken opened.read.same opened.inside;
          count = opened.device.faults;
          back = refl;
          is =
              ap (λ (y : Site). y.store) is ∙ ap (λ (o : Option Taken). back_if driver o now.store) opened.is
              ∙ back-is (store_of w) now.store (opened_name driver) opened.first opened.device opened.taken opened.read.same opened.inside;
        });
    called = subst (HasCalled w.nodes) (sym (ap (λ (y : Site). y.nodes) is ∙ opened.nodes)) (called_itself w.nodes);
  }

  pub put-so : (c : Adding) → IsNotAdded w.table c (site_of w) x → IsPutSo w x
  put-so c (inl back) = looked-back c.driver back
  put-so c (inr undone) =
      put-looked undone.between c.driver undone.out
      (looked-so w.table c (site_of w) undone.between undone.out undone.image undone.told (λ name unopened. closed-in w.table w.nodes w.opened name coherent.out unopened)
      undone.looked)
      undone.is
