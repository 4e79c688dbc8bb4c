-- A guest's own requests in a history, and histories in which all are done.
use Rattle.std.specs.Prelude.{◌≡◌, ℕ, ◌==◌, if◌then◌else◌, List, [], ◌∷◌, None, All}
use Rattle.trace_codec.specs.declared.op.Op.{Op}
use Rattle.blk_history.specs.Machine.{IoState, io_replay}
use Rattle.blk_history.specs.declared.event.Event.{Event}
use Rattle.blk_history.specs.declared.event.Event.TheVariants.{Admit, Refuse}

-- what a guest asked, in order: each request is admitted once or refused once
abbrev pub asked_by : ℕ → List Event → List Op
asked_by g [] = []
asked_by g (Admit h r op ∷ es) = if h == g then op ∷ asked_by g es else asked_by g es
asked_by g (Refuse h r op why ∷ es) = if h == g then op ∷ asked_by g es else asked_by g es
asked_by g (e ∷ es) = asked_by g es

-- nobody has a request in flight
abbrev pub IsIdle : IoState → Type 0
IsIdle s = All (λ row. row.flight ≡ None) s.table.guests

-- the guest's requests in the history are these, in order, and each that was admitted is retired
pub record IsWholeFor (opening : IoState) (g : ℕ) (ops : List Op) (h : List Event) : Type 0 where
  pub asked : asked_by g h ≡ ops
  pub retired : IsIdle (io_replay opening h)
