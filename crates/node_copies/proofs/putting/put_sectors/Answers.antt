use Rattle.std.proofs.Common.{◌≡◌, ◌-◌, ◌≤◌, ℕ, ◌∙◌, ap, subst, arith}
use Rattle.blk_base.specs.Pieces.{Extent, end_of}
use Rattle.blk_nodes.specs.Nodes.{Nodes, node_size}
use Rattle.node_copies.specs.Putting.{PutsRuns}
use Rattle.node_copies.specs.Sectors.{block_of, runs_from, runs_of, sector_count}
use Rattle.node_copies.proofs.Puts.{disk_whole, is_put, runs_kept, runs_others, runs_told}
use Rattle.node_copies.proofs.putting.put_sectors.Goals as goal

pub returns-clause-disk : goal.returns-clause-disk
returns-clause-disk g c = λ told.
    let old : Nodes = c.args.nodes.now in
    let new : Nodes = c.put_from.new.nodes in
    let block : Extent = block_of (node_size old c.args.to) c.args.block in
    let is : c.block_of-whole.result ≡ block = c.block_of-whole.ensures ∙ ap (λ (s : ℕ). block_of s c.args.block) c.size.ensures in
    let all : sector_count block - 0 ≡ sector_count block = omega arith in
    let puts : PutsRuns (runs_of block c.args.sectors) block old new c.args.to c.args.bytes.now c.put_from.result
    = subst (λ (k : ℕ). PutsRuns (runs_from k c.args.sectors 0) block old new c.args.to c.args.bytes.now c.put_from.result) all
    (subst (λ (b : Extent). PutsRuns (runs_from (sector_count b - 0) c.args.sectors 0) b old new c.args.to c.args.bytes.now c.put_from.result) is c.put_from.ensures) in
    let start = c.requires.block in
    let within : end_of block ≤ node_size old c.args.to = omega (arith, start) in
    is_put block c.args.sectors c.args.to c.args.bytes.now c.requires.whole old new c.put_from.result puts told
    (disk_whole old c.args.to (end_of block) c.edges.ensures.joined told c.requires.may.row c.requires.may.there within)

pub returns-clause-others : goal.returns-clause-others
returns-clause-others g c =
    let old : Nodes = c.args.nodes.now in
    let new : Nodes = c.put_from.new.nodes in
    let block : Extent = block_of (node_size old c.args.to) c.args.block in
    let is : c.block_of-whole.result ≡ block = c.block_of-whole.ensures ∙ ap (λ (s : ℕ). block_of s c.args.block) c.size.ensures in
    let all : sector_count block - 0 ≡ sector_count block = omega arith in
    let puts : PutsRuns (runs_of block c.args.sectors) block old new c.args.to c.args.bytes.now c.put_from.result
    = subst (λ (k : ℕ). PutsRuns (runs_from k c.args.sectors 0) block old new c.args.to c.args.bytes.now c.put_from.result) all
    (subst (λ (b : Extent). PutsRuns (runs_from (sector_count b - 0) c.args.sectors 0) b old new c.args.to c.args.bytes.now c.put_from.result) is c.put_from.ensures) in
    runs_others block c.args.to c.args.bytes.now (runs_of block c.args.sectors) old new c.put_from.result puts

pub returns-clause-kept : goal.returns-clause-kept
returns-clause-kept g c =
    let old : Nodes = c.args.nodes.now in
    let new : Nodes = c.put_from.new.nodes in
    let block : Extent = block_of (node_size old c.args.to) c.args.block in
    let is : c.block_of-whole.result ≡ block = c.block_of-whole.ensures ∙ ap (λ (s : ℕ). block_of s c.args.block) c.size.ensures in
    let all : sector_count block - 0 ≡ sector_count block = omega arith in
    let puts : PutsRuns (runs_of block c.args.sectors) block old new c.args.to c.args.bytes.now c.put_from.result
    = subst (λ (k : ℕ). PutsRuns (runs_from k c.args.sectors 0) block old new c.args.to c.args.bytes.now c.put_from.result) all
    (subst (λ (b : Extent). PutsRuns (runs_from (sector_count b - 0) c.args.sectors 0) b old new c.args.to c.args.bytes.now c.put_from.result) is c.put_from.ensures) in
    runs_kept block c.args.to c.args.bytes.now (runs_of block c.args.sectors) old new c.put_from.result puts

pub returns-clause-told : goal.returns-clause-told
returns-clause-told g c =
    let old : Nodes = c.args.nodes.now in
    let new : Nodes = c.put_from.new.nodes in
    let block : Extent = block_of (node_size old c.args.to) c.args.block in
    let is : c.block_of-whole.result ≡ block = c.block_of-whole.ensures ∙ ap (λ (s : ℕ). block_of s c.args.block) c.size.ensures in
    let all : sector_count block - 0 ≡ sector_count block = omega arith in
    let puts : PutsRuns (runs_of block c.args.sectors) block old new c.args.to c.args.bytes.now c.put_from.result
    = subst (λ (k : ℕ). PutsRuns (runs_from k c.args.sectors 0) block old new c.args.to c.args.bytes.now c.put_from.result) all
    (subst (λ (b : Extent). PutsRuns (runs_from (sector_count b - 0) c.args.sectors 0) b old new c.args.to c.args.bytes.now c.put_from.result) is c.put_from.ensures) in
    runs_told block c.args.to c.args.bytes.now (runs_of block c.args.sectors) old new c.put_from.result puts
