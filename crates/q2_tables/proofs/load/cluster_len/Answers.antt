use Rattle.std.proofs.Common.{◌≡◌, ◌≤◌, refl, arith}
use Rattle.q2_format.specs.Sizes.{cluster_size, clusters_for}
use Rattle.q2_format.specs.Header.{IsWithinLimits}
use Rattle.q2_format.proofs.Limits.{read_within}
use Rattle.q2_tables.proofs.load.cluster_len.Goals as goal

pub overflow_shl-result : goal.overflow_shl-result
overflow_shl-result c = let e : c.args.h.now.cluster_bits ≡ 16 = (read_within c.args.h.now c.args.len c.requires).cluster_bits in omega arith

pub returns-clause-size : goal.returns-clause-size
returns-clause-size c = let e : c.args.h.now.cluster_bits ≡ 16 = (read_within c.args.h.now c.args.len c.requires).cluster_bits in rw e refl

pub returns-clause-entries : goal.returns-clause-entries
returns-clause-entries c = let e : c.args.h.now.cluster_bits ≡ 16 = (read_within c.args.h.now c.args.len c.requires).cluster_bits in rw e refl

pub returns-clause-some : goal.returns-clause-some
returns-clause-some c = let e : c.args.h.now.cluster_bits ≡ 16 = (read_within c.args.h.now c.args.len c.requires).cluster_bits in rw e (omega arith)

pub returns-clause-small : goal.returns-clause-small
returns-clause-small c = let e : c.args.h.now.cluster_bits ≡ 16 = (read_within c.args.h.now c.args.len c.requires).cluster_bits in rw e (omega arith)

pub returns-clause-l1 : goal.returns-clause-l1
returns-clause-l1 c = (read_within c.args.h.now c.args.len c.requires).l1_size

pub returns-clause-len : goal.returns-clause-len
returns-clause-len c =
    let w : IsWithinLimits c.args.h.now c.args.len = read_within c.args.h.now c.args.len c.requires in
    let e : c.args.h.now.cluster_bits ≡ 16 = w.cluster_bits in
    let file : clusters_for (cluster_size 16) c.args.len ≤ 8388608 = rw e at w.file_clusters in
    omega (arith, file)
