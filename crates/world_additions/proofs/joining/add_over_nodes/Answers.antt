use Rattle.world_additions.proofs.joining.add_over_nodes.Goals as goal

pub returns-in-Name-clause-ok : goal.returns-in-Name-clause-ok
returns-in-Name-clause-ok g c =
    let ok = rw c.as_str.ensures.value at c.add_part.ensures.ok in
    rw (c.in-Raw.is, c.in-Name.is) ok

pub returns-in-Name-Some-clause-ok : goal.returns-in-Name-Some-clause-ok
returns-in-Name-Some-clause-ok g c =
    let ok = rw c.as_str-in-Name-Some.ensures.value at c.add_image.ensures.ok in
    rw (c.in-Qcow2.is, c.in-Name-Some.is-0, c.in-Name-Some.is-1) ok

pub returns-in-CopyOnRead-clause-ok : goal.returns-in-CopyOnRead-clause-ok
returns-in-CopyOnRead-clause-ok g c =
    let ok = rw c.as_str-in-CopyOnRead.ensures.value at c.add_filter.ensures.ok in
    rw c.in-CopyOnRead.is ok
