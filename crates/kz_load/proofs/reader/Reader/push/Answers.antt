use Rattle.std.proofs.Common.{◌≡◌, ℕ, ◌+◌, List, ◌++◌, length, sym, subst, arith}
use Rattle.kz_laws_values.specs.Coming.{lines_after}
use Rattle.kz_load.specs.Pending.{load_of_lines}
use Rattle.kz_load.proofs.Bytes.{load_bytes, long_in, much_in}
use Rattle.kz_load.proofs.reader.Reader.push.Goals as goal

pub returns-then-room-more-clause-stop : goal.returns-then-room-more-clause-stop
returns-then-room-more-clause-stop c = λ rest.
    let s = c.args.self.now in
    long_in s.place s.line.items s.taken c.args.bytes.now rest c.requires.no_ends (omega (arith, s.line.ok.0)) (omega (arith, s.line.ok.0))

pub returns-then-bytes-more-clause-stop : goal.returns-then-bytes-more-clause-stop
returns-then-bytes-more-clause-stop c = λ rest.
    let s = c.args.self.now in
    much_in s.place s.line.items s.taken c.args.bytes.now rest c.requires.no_ends (omega (arith, s.line.ok.0)) (omega (arith, s.line.ok.0))

pub returns-clause-ok : goal.returns-clause-ok
returns-clause-ok c = λ rest.
    let s = c.args.self.now in
    let bytes = c.args.bytes.now in
    subst (λ (l : List ℕ). load_of_lines s.place (lines_after s.line.items s.taken (bytes ++ rest)) ≡ load_of_lines s.place (lines_after l (s.taken + length bytes) rest)) (sym c.in-Ok.ensures.items)
    (load_bytes s.place s.line.items s.taken bytes rest c.requires.no_ends (omega (arith, s.line.ok.0)) (omega arith))
