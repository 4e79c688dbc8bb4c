-- The fields stand in front of what was read, and zeros behind it.
use Rattle.std.proofs.Common.{rules, ◌≡◌, ◌≤◌, length, ap, ◌∙◌}
use Rattle.blk_base.specs.Content.{bytes_at}
use Rattle.q2_image.proofs.NameCalls.{put_between}
use Rattle.q2_image.proofs.backing_name.read_between.Goals as goal

pub returns-in-Ok-clause-put : goal.returns-in-Ok-clause-put
returns-in-Ok-clause-put g c =
    let whole : length c.read_at.new.buf ≡ c.args.len = search rules in
    let twelve : length c.args.fields.now ≡ 12 = search rules in
    let enough : 8 ≤ length c.split_at_mut-between.result.1.now = search rules in
    put_between c.args.fields.now c.copy_from_slice.new.self c.read_at.new.buf c.split_at_mut-between.result.1.now c.split_at_mut-front.result.1.now c.args.bytes.now c.args.len
    (g.D.Device.content c.args.dev.now) (g.D.Device.size c.args.dev.now) twelve c.copy_from_slice.ensures.after whole c.requires.zeros c.split_at_mut-front.ensures.back c.split_at_mut-between.ensures.back enough c.requires.room
    (λ file told. c.in-Ok.ensures.read file told ∙ ap (bytes_at file 20) c.split_at_mut-between.ensures.front_len) c.in-Ok.ensures.past
