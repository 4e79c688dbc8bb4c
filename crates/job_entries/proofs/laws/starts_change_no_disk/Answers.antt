use Rattle.job_entries.proofs.Noted.{started_agrees, started_images, started_rests, started_table, started_disks}
use Rattle.job_entries.proofs.laws.starts_change_no_disk.Goals as goal

pub returns-clause-disks : goal.returns-clause-disks
returns-clause-disks c = started_agrees

pub returns-clause-images : goal.returns-clause-images
returns-clause-images c = started_images

pub returns-clause-rests : goal.returns-clause-rests
returns-clause-rests c = started_rests

pub returns-clause-table : goal.returns-clause-table
returns-clause-table c = started_table

pub returns-clause-bytes : goal.returns-clause-bytes
returns-clause-bytes c = started_disks
