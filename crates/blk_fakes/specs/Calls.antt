-- The calls of one object that may fail: which are to, how many were made, how many failed.
use Rattle.std.specs.Prelude.{ℕ, ◌≡◌, ◌+◌, ◌==◌, if◌then◌else◌, min, List, [], ◌∷◌, Option, Some, None, Bool, true, false, is_some, Result, Ok, Err}
use Rattle.blk_base.specs.declared.device.Stop.{Stop}
use Rattle.blk_base.specs.declared.device.Stop.TheVariants.{Failed, NoSpace}
use Rattle.blk_base.specs.declared.device.WriteStop.{WriteStop}
use Rattle.blk_base.specs.declared.store.StoreStop.{StoreStop}
use Rattle.blk_base.specs.declared.store.StoreStop.TheVariants.{Failed as StoreFailed}
use Rattle.blk_fakes.specs.declared.calls.FailAt.{FailAt}

pub record CallState : Type 0 where
  pub fails : List FailAt
  pub made : ℕ
  pub faults : ℕ

-- how much is done by the call of that number, where it is to fail
abbrev pub done_at : ℕ → List FailAt → Option ℕ
done_at number [] = None
done_at number (f ∷ fails) = if f.call == number then Some f.done else done_at number fails

-- one more; at its last value, 2^64 - 1, a count stands
abbrev pub one_more : ℕ → ℕ
one_more n = min (n + 1) 18446744073709551615

-- once one more call was made
abbrev pub with_call : CallState → CallState
with_call calls = record calls { made = one_more calls.made }

-- once one more call failed
abbrev pub with_fault : CallState → CallState
with_fault calls = record calls { faults = one_more calls.faults }

-- an object with a list of calls that are to fail, before its first call
abbrev pub no_calls : List FailAt → CallState
no_calls fails = record { fails = fails; made = 0; faults = 0 }

-- the call that comes next is to fail
abbrev pub fails_next : CallState → Bool
fails_next calls = is_some (done_at calls.made calls.fails)

-- once one more call was made, and failed or not
abbrev pub after_call : Bool → CallState → CallState
after_call failed calls = if failed then with_fault (with_call calls) else with_call calls

-- once one more call was made that can only fail as the list says
abbrev pub with_go : CallState → CallState
with_go calls = after_call (fails_next calls) calls

abbrev pub is_failed : Stop → Bool
is_failed Failed = true
is_failed NoSpace = false

-- whether a write failed
abbrev pub write_fails : {A : Type 0} → Result A WriteStop → Bool
write_fails (Ok done) = false
write_fails (Err stop) = is_failed stop.why

abbrev pub is_failure : StoreStop → Bool
is_failure StoreFailed = true
is_failure _ = false

-- whether a call of a store failed
abbrev pub store_fails : {A : Type 0} → Result A StoreStop → Bool
store_fails (Ok done) = false
store_fails (Err stop) = is_failure stop

-- no call is to fail, and none has
pub record NeverFails (calls : CallState) : Type 0 where
  pub list : calls.fails ≡ []
  pub count : calls.faults ≡ 0
