use Rattle.std.proofs.Common.{◌≡◌, rules}
use Rattle.q2_image.proofs.Named.{named_by_numbers}
use Rattle.q2_image.proofs.naming.see_names.Goals as goal

pub returns-clause-seen : goal.returns-clause-seen
returns-clause-seen c = named_by_numbers c.args.header.now c.args.table.now c.args.l1.now c.args.words.now c.mark_words-3.new.self
    c.cluster_size-cluster_size.result c.from-ref_clusters.result c.div_ceil-l1_clusters.result c.cluster_size-cluster_size.ensures.size (search rules)
    (let size = c.cluster_size-cluster_size.ensures.size in let entries : c.from.result ≡ c.args.header.now.l1_size = search rules in rw (size, entries) at c.div_ceil-l1_clusters.ensures)
    (c.mark_words-3.ensures.seen _ (c.mark_words-2.ensures.seen _ (c.mark_run-2.ensures.seen _ (c.mark_words.ensures.seen _
    (c.mark_run.ensures.seen _ (c.mark.ensures.seen _ c.in_ok-seen.ensures.none))))))
