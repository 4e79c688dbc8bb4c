-- What a store answers that tells its files is so of one that doesn't.
use Rattle.std.proofs.Common.{ℕ, List, Some, None, Result, Ok, Err}
use Rattle.blk_base.specs.Answers.{OpenAnswers, ReadAnswers}
use Rattle.blk_base.specs.declared.file.File.{File}
use Rattle.blk_base.specs.declared.file.Opened.{Opened}
use Rattle.blk_base.specs.declared.store.StoreStop.{StoreStop}
use Rattle.blk_base.specs.declared.store.StoreStop.TheVariants.{Absent, InUse, TooLong, Failed, NoMemory}

pub untold_open : {A : Type 0} (name : List ℕ) (files : List File) (opened : List Opened) (before now : ℕ) (result : Result A StoreStop)
    → OpenAnswers name (Some files) opened before now result → OpenAnswers name None opened before now result
untold_open name files opened before now (Ok dev) answers = (answers.0, tt)
untold_open name files opened before now (Err Absent) answers = (answers.0, tt)
untold_open name files opened before now (Err InUse) answers = answers
untold_open name files opened before now (Err TooLong) answers = answers
untold_open name files opened before now (Err Failed) answers = (answers.0, tt, answers.2)
untold_open name files opened before now (Err NoMemory) answers = answers

pub untold_read : {A : Type 0} (name : List ℕ) (limit : ℕ) (files : List File) (opened : List Opened) (before now : ℕ) (result : Result A StoreStop)
    → ReadAnswers name limit (Some files) opened before now result → ReadAnswers name limit None opened before now result
untold_read name limit files opened before now (Ok bytes) answers = (answers.0, tt)
untold_read name limit files opened before now (Err Absent) answers = (answers.0, tt)
untold_read name limit files opened before now (Err InUse) answers = answers
untold_read name limit files opened before now (Err TooLong) answers = (answers.0, tt)
untold_read name limit files opened before now (Err Failed) answers = (answers.0, tt, answers.2)
untold_read name limit files opened before now (Err NoMemory) answers = answers
