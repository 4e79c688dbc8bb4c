use Rattle.job_entries.proofs.Noted.{readied_agrees, readied_images, readied_rests, readied_disks}
use Rattle.job_entries.proofs.laws.readiness_changes_no_disk.Goals as goal

pub returns-clause-disks : goal.returns-clause-disks
returns-clause-disks c = readied_agrees

pub returns-clause-images : goal.returns-clause-images
returns-clause-images c = readied_images

pub returns-clause-rests : goal.returns-clause-rests
returns-clause-rests c = readied_rests

pub returns-clause-bytes : goal.returns-clause-bytes
returns-clause-bytes c = readied_disks
