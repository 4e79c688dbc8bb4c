use Rattle.std.proofs.Common.{◌≡◌, ◌<◌, ℕ, true, List, sym, ◌∙◌, ap, subst, arith}
use Rattle.std.specs.Prelude.{IsOk, Result}
use Rattle.blk_base.specs.Content.{bytes_at}
use Rattle.blk_base.specs.Outcomes.{is_good}
use Rattle.blk_base.specs.Pieces.{Extent}
use Rattle.blk_base.specs.declared.fault.Fault.{Fault}
use Rattle.blk_base.specs.declared.fault.Outcome.{Outcome}
use Rattle.blk_base.specs.declared.fault.Outcome.TheVariants.{Good}
use Rattle.blk_nodes.specs.Contents.{disk_of}
use Rattle.blk_nodes.specs.Found.{IsReadOfSource}
use Rattle.blk_nodes.specs.Nodes.{Nodes, AreTold, node_size}
use Rattle.blk_nodes.specs.Reading.{ReadsDisk}
use Rattle.blk_nodes.specs.Sources.{source_at}
use Rattle.blk_nodes.specs.Writing.{IsApartFrom}
use Rattle.node_copies.specs.Putting.{CopiesBlock, IsPut, PutsRuns}
use Rattle.node_copies.specs.Sectors.{block_of, runs_of}
use Rattle.node_copies.proofs.Copies.{copies_put, disk_put, read_same}
use Rattle.node_copies.proofs.Puts.{told_risen}
use Rattle.node_copies.proofs.copying.copy_block.Goals as goal

pub returns-then-not-is_good-clause-told : goal.returns-then-not-is_good-clause-told
returns-then-not-is_good-clause-told g c = λ told.
    told_risen c.args.nodes.now c.peek_piece-read.new.self c.edges.ensures.joined c.peek_piece-read.ensures.devices told

pub returns-clause-copies : goal.returns-clause-copies
returns-clause-copies g c =
    let old : Nodes = c.args.nodes.now in
    let mid : Nodes = c.peek_piece-read.new.self in
    let new : Nodes = c.put_sectors.new.nodes in
    let e = c.peek_piece-read.ensures in
    let p = c.put_sectors.ensures in
    let read : Outcome = c.peek_piece-read.result in
    let wrote : Outcome = c.put_sectors.result in
    let bytes : List ℕ = c.peek_piece-read.new.buffer in
    let block : Extent = block_of (node_size old c.args.to) c.args.block in
    let is : c.block_of-whole.result ≡ block = c.block_of-whole.ensures ∙ ap (λ (s : ℕ). block_of s c.args.block) c.size.ensures in
    let start = c.requires.block in
    let some : 0 < block.len = omega (arith, start) in
    let From : Extent → Type 0 = λ b. 0 < b.len → IsReadOfSource old.rows (source_at old c.args.from b.start) b old.devices mid.devices read in
    let source : From block = subst From is e.source in
    let found : AreTold old.devices → ReadsDisk read (disk_of old c.args.from) block bytes
    = subst (λ (b : Extent). AreTold old.devices → ReadsDisk read (disk_of old c.args.from) b bytes) is e.read in
    let good : is_good read ≡ true = sym c.is_good.ensures ∙ c.if-not-is_good.false in
    let same : mid ≡ old = read_same old mid c.args.from c.args.to block c.args.sectors read bytes e.outcome (source some) e.kept e.devices found good in
    let size : node_size mid c.args.to ≡ node_size old c.args.to = ap (λ (n : Nodes). node_size n c.args.to) same in
    let Puts : ℕ → Type 0 = λ s. PutsRuns (runs_of (block_of s c.args.block) c.args.sectors) (block_of s c.args.block) mid new c.args.to bytes wrote in
    let puts : Puts (node_size old c.args.to) = subst Puts size p.puts in
    subst (λ (r : Result (Unit {0}) Fault). CopiesBlock old new c.args.from c.args.to block c.args.sectors r) (sym c.answer_of-2.ensures)
    (copies_put old mid c.args.from c.args.to block c.args.sectors read bytes e.outcome (source some) e.kept e.devices found good new wrote puts)

pub returns-clause-disk : goal.returns-clause-disk
returns-clause-disk g c = λ told.
    let old : Nodes = c.args.nodes.now in
    let mid : Nodes = c.peek_piece-read.new.self in
    let new : Nodes = c.put_sectors.new.nodes in
    let e = c.peek_piece-read.ensures in
    let p = c.put_sectors.ensures in
    let read : Outcome = c.peek_piece-read.result in
    let wrote : Outcome = c.put_sectors.result in
    let bytes : List ℕ = c.peek_piece-read.new.buffer in
    let block : Extent = block_of (node_size old c.args.to) c.args.block in
    let is : c.block_of-whole.result ≡ block = c.block_of-whole.ensures ∙ ap (λ (s : ℕ). block_of s c.args.block) c.size.ensures in
    let start = c.requires.block in
    let some : 0 < block.len = omega (arith, start) in
    let From : Extent → Type 0 = λ b. 0 < b.len → IsReadOfSource old.rows (source_at old c.args.from b.start) b old.devices mid.devices read in
    let source : From block = subst From is e.source in
    let found : AreTold old.devices → ReadsDisk read (disk_of old c.args.from) block bytes
    = subst (λ (b : Extent). AreTold old.devices → ReadsDisk read (disk_of old c.args.from) b bytes) is e.read in
    let good : is_good read ≡ true = sym c.is_good.ensures ∙ c.if-not-is_good.false in
    let same : mid ≡ old = read_same old mid c.args.from c.args.to block c.args.sectors read bytes e.outcome (source some) e.kept e.devices found good in
    let size : node_size mid c.args.to ≡ node_size old c.args.to = ap (λ (n : Nodes). node_size n c.args.to) same in
    let Put : ℕ → Type 0 = λ s. AreTold mid.devices → IsPut (block_of s c.args.block) c.args.sectors bytes (disk_of mid c.args.to) (disk_of new c.args.to) (wrote ≡ Good) in
    let put : Put (node_size old c.args.to) = subst Put size p.disk in
    subst (λ (r : Result (Unit {0}) Fault). IsPut block c.args.sectors (bytes_at (disk_of old c.args.from) block.start block.len) (disk_of old c.args.to) (disk_of new c.args.to) (IsOk r)) (sym c.answer_of-2.ensures)
    (disk_put old mid c.args.from c.args.to block c.args.sectors read bytes e.outcome (source some) e.kept e.devices found good told new wrote put)

pub returns-clause-others : goal.returns-clause-others
returns-clause-others g c = λ other apart.
    let old : Nodes = c.args.nodes.now in
    let mid : Nodes = c.peek_piece-read.new.self in
    let new : Nodes = c.put_sectors.new.nodes in
    let e = c.peek_piece-read.ensures in
    let p = c.put_sectors.ensures in
    let read : Outcome = c.peek_piece-read.result in
    let wrote : Outcome = c.put_sectors.result in
    let bytes : List ℕ = c.peek_piece-read.new.buffer in
    let block : Extent = block_of (node_size old c.args.to) c.args.block in
    let is : c.block_of-whole.result ≡ block = c.block_of-whole.ensures ∙ ap (λ (s : ℕ). block_of s c.args.block) c.size.ensures in
    let start = c.requires.block in
    let some : 0 < block.len = omega (arith, start) in
    let From : Extent → Type 0 = λ b. 0 < b.len → IsReadOfSource old.rows (source_at old c.args.from b.start) b old.devices mid.devices read in
    let source : From block = subst From is e.source in
    let found : AreTold old.devices → ReadsDisk read (disk_of old c.args.from) block bytes
    = subst (λ (b : Extent). AreTold old.devices → ReadsDisk read (disk_of old c.args.from) b bytes) is e.read in
    let good : is_good read ≡ true = sym c.is_good.ensures ∙ c.if-not-is_good.false in
    let same : mid ≡ old = read_same old mid c.args.from c.args.to block c.args.sectors read bytes e.outcome (source some) e.kept e.devices found good in
    let size : node_size mid c.args.to ≡ node_size old c.args.to = ap (λ (n : Nodes). node_size n c.args.to) same in
    p.others other (subst (λ (n : Nodes). IsApartFrom n other c.args.to) (sym same) apart) ∙ ap (λ (n : Nodes). disk_of n other) same

pub returns-clause-told : goal.returns-clause-told
returns-clause-told g c = λ told.
    let old : Nodes = c.args.nodes.now in
    let mid : Nodes = c.peek_piece-read.new.self in
    let new : Nodes = c.put_sectors.new.nodes in
    let e = c.peek_piece-read.ensures in
    let p = c.put_sectors.ensures in
    let read : Outcome = c.peek_piece-read.result in
    let wrote : Outcome = c.put_sectors.result in
    let bytes : List ℕ = c.peek_piece-read.new.buffer in
    let block : Extent = block_of (node_size old c.args.to) c.args.block in
    let is : c.block_of-whole.result ≡ block = c.block_of-whole.ensures ∙ ap (λ (s : ℕ). block_of s c.args.block) c.size.ensures in
    let start = c.requires.block in
    let some : 0 < block.len = omega (arith, start) in
    let From : Extent → Type 0 = λ b. 0 < b.len → IsReadOfSource old.rows (source_at old c.args.from b.start) b old.devices mid.devices read in
    let source : From block = subst From is e.source in
    let found : AreTold old.devices → ReadsDisk read (disk_of old c.args.from) block bytes
    = subst (λ (b : Extent). AreTold old.devices → ReadsDisk read (disk_of old c.args.from) b bytes) is e.read in
    let good : is_good read ≡ true = sym c.is_good.ensures ∙ c.if-not-is_good.false in
    let same : mid ≡ old = read_same old mid c.args.from c.args.to block c.args.sectors read bytes e.outcome (source some) e.kept e.devices found good in
    let size : node_size mid c.args.to ≡ node_size old c.args.to = ap (λ (n : Nodes). node_size n c.args.to) same in
    p.told (subst (λ (n : Nodes). AreTold n.devices) (sym same) told)
