use Rattle.q2_format.proofs.ReadBack.{created_header_accepted, header_read}
use Rattle.q2_format.proofs.laws.created_headers_read_back.Goals as goal

pub returns-clause-accepted : goal.returns-clause-accepted
returns-clause-accepted c file size len name format can header long short =
    created_header_accepted file size len name format header can.name_fits can.name_is_text can.format_fits can.small long short

pub returns-clause-fields : goal.returns-clause-fields
returns-clause-fields c file size name format can header = header_read file size name format header can.name_fits can.format_fits
