use Rattle.std.proofs.Common.{replicate, nat_lt, ◌≡◌, ◌++◌, take, ◌<◌, length, arith, false, ℕ}
use Rattle.std.proofs.lemmas.Bool.Decides.{nat_tests}
use Rattle.std.proofs.lemmas.Grind.{common_steps}
use Rattle.st_main.proofs.ReadOn.{reads-more}
use Rattle.st_main.proofs.reading.read_piece.Goals as goal

pub returns-clause-read : goal.returns-clause-read
returns-clause-read g c =
    let n = c.in-Ok.count in
    let same = c.as_slice-place.ensures.value in
    let some : 0 < length (replicate {A = ℕ} 4096 0) = grind (arith, common_steps) in
    let added : c.extend_from_slice.new.self.items ≡ c.args.text.now.items ++ take n c.read_at.new.buf = grind (arith, common_steps, c.in_ok-extend_from_slice.ensures.items) in
    let none : nat_lt 0 n ≡ false → n ≡ 0 = λ e. grind (arith, nat_tests, e) in
    let read = rw same at c.in-Ok.ensures.read in
    reads-more (g.F.Files.contents c.args.files.now) c.args.name.now c.args.text.now.items c.extend_from_slice.new.self.items (replicate 4096 0) c.read_at.new.buf n (nat_lt 0 n) read some added none
