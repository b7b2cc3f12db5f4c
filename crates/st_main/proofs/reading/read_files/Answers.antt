use Rattle.std.proofs.Common.{◌≡◌, ◌≤◌, ◌+◌, ℕ, List, arith, rules, length, map, ap, string_bytes, refl}
use Rattle.std.proofs.lemmas.List.{length-map}
use Rattle.std.proofs.lemmas.Result.{err_from_is_err_and}
use Rattle.st_main.specs.Answer.{library_of}
use Rattle.st_main.proofs.ReadTexts.{count-push, file-long, file-whole, unread-file}
use Rattle.st_main.proofs.reading.read_files.Goals as goal

pub returns-in_err-text-clause-fault : goal.returns-in_err-text-clause-fault
returns-in_err-text-clause-fault g c =
    let p = err_from_is_err_and c.from_residual.result c.from_residual.ensures.1 in
    let names : List (List ℕ) = map (λ n. string_bytes n) c.args.names.now in
    let texts : List (List ℕ) = map (λ t. t.items) c.loop-i.texts.items in
    let count = c.loop-i.invariant.count in
    let inside = c.loop-i-test.true in
    let many : length texts ≡ length c.loop-i.texts.items = length-map c.loop-i.texts.items (λ t. t.items) in
    let named : length names ≡ length c.args.names.now = length-map c.args.names.now (λ n. string_bytes n) in
    let next : length texts + 1 ≡ c.loop-i.i + 1 = omega (arith, count, many) in
    let last : c.loop-i.i + 1 ≤ length names = omega (arith, inside, named) in
    let low = c.loop-i.invariant.faults in
    let high : g.F.Files.faults c.read_text.new.files ≤ g.F.Files.faults c.read_text.new.files = omega arith in
    rw (p.1, p.2) (unread-file (library_of (g.F.Files.contents c.args.files.now) (g.F.Files.faults c.args.files.now) (g.F.Files.faults c.read_text.new.files)) names texts c.loop-i.room (c.loop-i.i + 1) (g.F.Files.faults c.loop-i.files) (g.F.Files.faults c.read_text.new.files) _ c.loop-i.invariant.so_far next last low high c.in_err-text.ensures.fault)

pub returns-then-room-length-clause-texts : goal.returns-then-room-length-clause-texts
returns-then-room-length-clause-texts g c =
    file-long (λ n. string_bytes n) (λ t. t.items) (g.F.Files.contents c.args.files.now) (g.F.Files.contents c.loop-i.files) c.args.names.now c.loop-i.texts.items c.push.new.self.items c.loop-i.i c.loop-i.room (length c.as_slice-length.result.now) c.index-names-i.result c.as_str.result.now c.in_ok-text.text
    c.loop-i-test.true c.index-names-i.is c.as_str.ensures.value c.loop-i.invariant.count c.loop-i.invariant.contents c.in_ok-push.ensures.items (ap length c.as_slice-length.ensures.value) c.loop-i.invariant.so_far c.in_ok-text.ensures.text c.if-room-length.true

pub loop-i-preserved : goal.loop-i-preserved
loop-i-preserved g c = record {
  contents = search rules;
  faults = search rules;
  count = count-push c.loop-i.texts.items c.push.new.self.items c.in_ok-text.text c.loop-i.i c.in_ok-push.ensures.items c.loop-i.invariant.count;
  so_far =
      file-whole (λ n. string_bytes n) (λ t. t.items) (g.F.Files.contents c.args.files.now) (g.F.Files.contents c.loop-i.files) c.args.names.now c.loop-i.texts.items c.push.new.self.items c.loop-i.i c.loop-i.room (length c.as_slice-length.result.now) c.index-names-i.result c.as_str.result.now c.in_ok-text.text
      c.loop-i-test.true c.index-names-i.is c.as_str.ensures.value c.loop-i.invariant.count c.loop-i.invariant.contents c.in_ok-push.ensures.items (ap length c.as_slice-length.ensures.value) c.loop-i.invariant.so_far c.in_ok-text.ensures.text c.if-room-length.false;
}
