-- Each part is put once, and read the same behind what is put after it.
use Rattle.std.proofs.Common.{arith}
use Rattle.std.specs.Option.{option_copied}
use Rattle.q2_format.proofs.Creating.{fields_alike, given_name_alike}
use Rattle.q2_format.proofs.Placed.{copied_fits}
use Rattle.q2_format.specs.Created.{creation_of, IsNewName, IsNewFormat}
use Rattle.q2_format.proofs.writing.write_header.Goals as goal

pub returns-clause-header : goal.returns-clause-header
returns-clause-header c = record {
  fields = fields_alike (creation_of c.args.size (option_copied c.args.name) (option_copied c.args.format)) c.put_backing_name.new.out c.put_extensions.new.out
      (c.put_backing_name.ensures.fields c.args.size (option_copied c.args.format) (c.put_fields.ensures.fields (option_copied c.args.format)))
      (record { same = λ i low high. c.put_extensions.ensures.before i (omega arith) });
  extensions = c.put_extensions.ensures.extensions c.args.size (option_copied c.args.name);
  name = given_name_alike c.args.size c.args.name (option_copied c.args.format) c.put_backing_name.new.out c.put_extensions.new.out c.requires.name
      (c.put_backing_name.ensures.name c.args.size (option_copied c.args.format))
      (record { same = λ i low high. c.put_extensions.ensures.behind i (omega arith) });
}

pub returns-clause-readable : goal.returns-clause-readable
returns-clause-readable c = record {
  small = c.requires.size;
  name_fits = copied_fits IsNewName c.args.name c.requires.name;
  name_is_text = c.put_backing_name.ensures.text;
  format_fits = copied_fits IsNewFormat c.args.format c.requires.format;
}
