use Rattle.world_additions.proofs.joining.add_file_image.Goals as goal

pub put_image-requires : goal.put_image-requires
put_image-requires g c =
    let ok = rw (c.in-Ok.ensures.file, c.is_read_only.ensures) at c.in-Ok-put_file.ensures.ok in
    rw (c.in-Ok.ensures.own, c.backing_for-backing.ensures, c.is_read_only-in-Ok-put_file.ensures)
    (c.requires.next c.put_file.new.nodes c.in-Ok-put_file.node ok)
