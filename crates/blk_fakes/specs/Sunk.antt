-- What contracts see of a sink in memory.
use Rattle.std.specs.Prelude.{ℕ, ◌-◌, min, List, length, unwrap_or}
use Rattle.blk_fakes.specs.Calls.{CallState, done_at}

pub record SinkState : Type 0 where
  pub sent : List ℕ
  -- how many bytes may go out in all
  pub room : ℕ
  pub calls : CallState

-- how many of n bytes fit
abbrev pub fitting : SinkState → ℕ → ℕ
fitting sink n = min (sink.room - length sink.sent) n

-- how many of n bytes go out where a put fails: as the list says, and no more than fit
abbrev pub sent_at : SinkState → ℕ → ℕ
sent_at sink n = min (unwrap_or (done_at sink.calls.made sink.calls.fails) n) (fitting sink n)
