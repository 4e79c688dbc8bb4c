-- One level of the walk.
use Rattle.std.proofs.Common.{◌≡◌, ℕ, zero, suc, ◌-◌, ◌<◌, None, refl, arith}
use Rattle.std.proofs.Common.{sub-one}
use Rattle.serde_json.specs.Data.{Data}
use Rattle.qmp_codec.specs.declared.form.Form.{Form}
use Rattle.qmp_codec.specs.declared.walk.Search.{Search}
use Rattle.qmp_codec.specs.Tables.{members}
use Rattle.qmp_codec.specs.Forms.{settled}
use Rattle.qmp_codec.specs.Walk.{first_fault, rows_fault, least, members_unknown, rows_unknown, least_unknown}

pub first_fault_none : (search : Search) (table : Form) (around d : Data) → first_fault 0 search table around d ≡ None
unfolding first_fault
first_fault_none search table around d = refl

pub first_fault_step : (depth : ℕ) (search : Search) (table : Form) (around d : Data) → 0 < depth
    → first_fault depth search table around d
    ≡ rows_fault search (λ inner part. first_fault (depth - 1) search inner d part) d (members (settled table around d))
unfolding first_fault
first_fault_step zero search table around d h = absurd (omega arith)
first_fault_step (suc depth) search table around d h = rw sub-one

pub least_unknown_none : (table : Form) (around d : Data) → least_unknown 0 table around d ≡ None
unfolding least_unknown
least_unknown_none table around d = refl

pub least_unknown_step : (depth : ℕ) (table : Form) (around d : Data) → 0 < depth
    → least_unknown depth table around d
    ≡ least (members_unknown (members (settled table around d)) d)
    (rows_unknown (λ inner part. least_unknown (depth - 1) inner d part) d None (members (settled table around d)))
unfolding least_unknown
least_unknown_step zero table around d h = absurd (omega arith)
least_unknown_step (suc depth) table around d h = rw sub-one
