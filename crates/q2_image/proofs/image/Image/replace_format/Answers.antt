-- The format's bytes are written whole, or up to some of them.
use Rattle.std.proofs.Common.{◌≡◌, ℕ, List, ap, ◌∙◌}
use Rattle.q2_format.specs.Renamed.{format_bytes}
use Rattle.q2_image.proofs.NameCalls.{format_before, format_behind, format_done, format_low, format_stopped, known_before, known_past}
use Rattle.q2_image.proofs.image.Image.replace_format.Goals as goal

pub overflow_sub-place : goal.overflow_sub-place
overflow_sub-place g c = format_low c.args.self.now c.args.place c.requires.open c.requires.room

pub returns-in-Ok-clause-image : goal.returns-in-Ok-clause-image
returns-in-Ok-clause-image g c =
    let bytes : List ℕ = c.format_bytes-bytes.result in
    let same : bytes ≡ format_bytes c.args.format.now = c.format_bytes-bytes.ensures ∙ ap format_bytes c.as_bytes.ensures.value in
    format_done g.D.Device c.args.self.now c.args.format.now bytes c.args.place c.requires.room same c.args.dev.now c.write_at.new.self
    c.requires.image c.requires.open c.requires.format c.keep_format.new.self c.keep_format.ensures c.in-Ok.ensures.written

pub returns-then-stop-lt-NUMBER-clause-makes : goal.returns-then-stop-lt-NUMBER-clause-makes
returns-then-stop-lt-NUMBER-clause-makes g c =
    let bytes : List ℕ = c.format_bytes-bytes.result in
    let same : bytes ≡ format_bytes c.args.format.now = c.format_bytes-bytes.ensures ∙ ap format_bytes c.as_bytes.ensures.value in
    format_stopped g.D.Device c.args.self.now c.args.format.now bytes c.args.place c.requires.room same c.args.dev.now c.write_at.new.self
    c.in-Err.stop.done c.in-Err.stop.why c.dev_stop.result c.args.self.now c.dev_stop.ensures
    (record {
      content = c.in-Err.ensures.written;
      size = c.in-Err.ensures.size;
      log = c.in-Err.ensures.log;
      same_log = λ none. let bad : ⊥ = cc none in absurd bad;
      flushed = c.in-Err.ensures.flushed;
      capacity = c.in-Err.ensures.capacity;
      faults = c.in-Err.ensures.faults;
    }) c.in-Err.ensures.no_space c.in-Err.ensures.failed c.in-Err.ensures.call c.requires.format
    (known_before g.D.Device c.args.self.now c.args.format.now bytes c.args.place c.requires.room same c.args.dev.now c.write_at.new.self c.in-Err.stop.done c.if-stop-lt-NUMBER.true)

pub returns-then-stop-lt-NUMBER-clause-image : goal.returns-then-stop-lt-NUMBER-clause-image
returns-then-stop-lt-NUMBER-clause-image g c =
    let bytes : List ℕ = c.format_bytes-bytes.result in
    let same : bytes ≡ format_bytes c.args.format.now = c.format_bytes-bytes.ensures ∙ ap format_bytes c.as_bytes.ensures.value in
    format_before g.D.Device c.args.self.now c.args.format.now bytes c.args.place c.requires.room same c.args.dev.now c.write_at.new.self
    c.requires.image c.requires.open c.requires.format c.in-Err.stop.done c.if-stop-lt-NUMBER.true c.in-Err.ensures.written

pub returns-else-stop-lt-NUMBER-clause-makes : goal.returns-else-stop-lt-NUMBER-clause-makes
returns-else-stop-lt-NUMBER-clause-makes g c =
    let bytes : List ℕ = c.format_bytes-bytes.result in
    let same : bytes ≡ format_bytes c.args.format.now = c.format_bytes-bytes.ensures ∙ ap format_bytes c.as_bytes.ensures.value in
    format_stopped g.D.Device c.args.self.now c.args.format.now bytes c.args.place c.requires.room same c.args.dev.now c.write_at.new.self
    c.in-Err.stop.done c.in-Err.stop.why c.dev_stop-in-Err.result c.keep_format-in-Err.new.self c.dev_stop-in-Err.ensures
    (record {
      content = c.in-Err.ensures.written;
      size = c.in-Err.ensures.size;
      log = c.in-Err.ensures.log;
      same_log = λ none. let bad : ⊥ = cc none in absurd bad;
      flushed = c.in-Err.ensures.flushed;
      capacity = c.in-Err.ensures.capacity;
      faults = c.in-Err.ensures.faults;
    }) c.in-Err.ensures.no_space c.in-Err.ensures.failed c.in-Err.ensures.call c.requires.format
    (known_past g.D.Device c.args.self.now c.args.format.now bytes c.args.place c.requires.room same c.args.dev.now c.write_at.new.self c.in-Err.stop.done c.keep_format-in-Err.new.self c.if-stop-lt-NUMBER.false c.keep_format-in-Err.ensures)

pub returns-else-stop-lt-NUMBER-clause-image : goal.returns-else-stop-lt-NUMBER-clause-image
returns-else-stop-lt-NUMBER-clause-image g c =
    let bytes : List ℕ = c.format_bytes-bytes.result in
    let same : bytes ≡ format_bytes c.args.format.now = c.format_bytes-bytes.ensures ∙ ap format_bytes c.as_bytes.ensures.value in
    format_behind g.D.Device c.args.self.now c.args.format.now bytes c.args.place c.requires.room same c.args.dev.now c.write_at.new.self
    c.requires.image c.requires.open c.requires.format c.keep_format-in-Err.new.self c.keep_format-in-Err.ensures c.in-Err.stop.done c.if-stop-lt-NUMBER.false c.in-Err.ensures.written
