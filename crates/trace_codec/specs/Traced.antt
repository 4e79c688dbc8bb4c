-- The requests that a trace can ask for.
use Rattle.std.specs.Prelude.{◌≡◌, ◌^◌, ◌<◌, ◌≤◌, List, length, false}
use Rattle.std.specs.List.{AllByRecursion}
use Rattle.blk_base.specs.Pieces.{Extent}
use Rattle.trace_codec.specs.declared.op.Op.{Op}
use Rattle.trace_codec.specs.declared.op.Op.TheVariants.{Read, Write, Zero, Flush, Discard}
use Rattle.trace_codec.specs.declared.op.Payload.{Payload}
use Rattle.trace_codec.specs.declared.op.Payload.TheVariants.{Fill, Raw}
use Rattle.trace_codec.specs.Amounts.{nothing}
use Rattle.trace_codec.specs.Causes.{are_too_many}

-- it begins below 2^62, and has from 1 byte to 2 MiB
pub record IsRange (span : Extent) : Type 0 where
  pub start : span.start < 2 ^ 62
  pub some : 0 < span.len
  pub most : span.len ≤ 2097152

-- bytes are numbers below 256, and as many as the span has
abbrev pub IsPayload : Extent → Payload → Type 0
IsPayload span (Fill byte) = byte < 256
IsPayload span (Raw bytes) = (length bytes ≡ span.len) × AllByRecursion (λ byte. byte < 256) bytes

-- a line can ask for it
abbrev pub IsRequest : Op → Type 0
IsRequest (Read span) = IsRange span
IsRequest (Write span payload) = IsRange span × IsPayload span payload
IsRequest (Zero span) = IsRange span
IsRequest Flush = Unit {0}
IsRequest (Discard span) = IsRange span

-- a trace can ask for them: each by a line, and they are not too many
pub record IsTrace (ops : List Op) : Type 0 where
  pub each : AllByRecursion IsRequest ops
  pub few : are_too_many nothing ops ≡ false
