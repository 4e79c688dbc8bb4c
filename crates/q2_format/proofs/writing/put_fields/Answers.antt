-- Each field is what was put at its place, or the 0 that was there.
use Rattle.std.proofs.Common.{◌≡◌, None, arith, sym, ◌∙◌}
use Rattle.q2_format.specs.Bytes.{number_at}
use Rattle.q2_format.proofs.Creating.{zero_number, one_table_cluster, l1_table_behind}
use Rattle.q2_format.proofs.writing.put_fields.Goals as goal

pub returns-clause-fields : goal.returns-clause-fields
returns-clause-fields c format = record {
  magic = grind arith;
  version = grind arith;
  name_offset =
      let was = zero_number c.args.out.now 0 112 8 8 c.requires.zeros (omega arith) (omega arith) in
      grind (arith, was);
  name_length =
      let was = zero_number c.args.out.now 0 112 16 4 c.requires.zeros (omega arith) (omega arith) in
      grind (arith, was);
  cluster_bits = grind arith;
  size = grind arith;
  crypt_method =
      let was = zero_number c.args.out.now 0 112 32 4 c.requires.zeros (omega arith) (omega arith) in
      grind (arith, was);
  l1_size = grind arith;
  l1_offset =
      let put : number_at c.put_u32-7.new.out 40 8 ≡ 196608 = grind arith in
      put ∙ sym (l1_table_behind c.args.size None format c.requires.size);
  refcount_table_offset = grind arith;
  refcount_table_clusters =
      let put : number_at c.put_u32-7.new.out 56 4 ≡ 1 = grind arith in
      put ∙ sym (one_table_cluster c.args.size None format c.requires.size);
  nb_snapshots =
      let was = zero_number c.args.out.now 0 112 60 4 c.requires.zeros (omega arith) (omega arith) in
      grind (arith, was);
  snapshots_offset =
      let was = zero_number c.args.out.now 0 112 64 8 c.requires.zeros (omega arith) (omega arith) in
      grind (arith, was);
  incompatible =
      let was = zero_number c.args.out.now 0 112 72 8 c.requires.zeros (omega arith) (omega arith) in
      grind (arith, was);
  compatible =
      let was = zero_number c.args.out.now 0 112 80 8 c.requires.zeros (omega arith) (omega arith) in
      grind (arith, was);
  autoclear =
      let was = zero_number c.args.out.now 0 112 88 8 c.requires.zeros (omega arith) (omega arith) in
      grind (arith, was);
  refcount_order = grind arith;
  header_length = grind arith;
  compression_type = λ i low high. let was = c.requires.zeros i (omega arith) high in grind (arith, was);
}
