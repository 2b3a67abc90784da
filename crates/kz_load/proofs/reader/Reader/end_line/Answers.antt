use Rattle.std.proofs.Common.{◌≡◌, ℕ, ◌+◌, List, ◌∷◌, sym, subst, arith}
use Rattle.kz_spec_data.specs.Lines.{Item, line}
use Rattle.kz_laws_values.specs.Coming.{lines_after}
use Rattle.kz_load.specs.Stops.{IsLineStop}
use Rattle.kz_load.specs.Pending.{load_of_lines}
use Rattle.kz_load.proofs.Steps.{load_end, stops_end, stops_end_much}
use Rattle.kz_load.proofs.reader.Reader.end_line.Goals as goal

pub returns-then-self-ge-MAX_INPUT_BYTES-clause-stop : goal.returns-then-self-ge-MAX_INPUT_BYTES-clause-stop
returns-then-self-ge-MAX_INPUT_BYTES-clause-stop c = λ rest. let s = c.args.self.now in stops_end_much s.place s.line.items s.taken rest (omega arith)

pub returns-in-Err-clause-stop : goal.returns-in-Err-clause-stop
returns-in-Err-clause-stop c = λ rest.
    let s = c.args.self.now in
    stops_end s.place s.line.items s.taken rest c.in-Err.stop (omega arith)
    (subst (λ (l : List ℕ). (is : List Item) → IsLineStop (load_of_lines s.place (line l ∷ is)) c.in-Err.stop) c.deref.ensures.value c.in-Err.ensures.stop)

pub returns-clause-ok : goal.returns-clause-ok
returns-clause-ok c = λ rest.
    let s = c.args.self.now in
    let new = c.advance.new.self in
    subst (λ (l : List ℕ). load_of_lines s.place (lines_after s.line.items s.taken (10 ∷ rest)) ≡ load_of_lines new (lines_after l (s.taken + 1) rest)) (sym c.clear.ensures.items)
    (load_end s.place new s.line.items s.taken rest (omega arith)
    (subst (λ (l : List ℕ). (is : List Item) → load_of_lines s.place (line l ∷ is) ≡ load_of_lines new is) c.deref.ensures.value c.in-Ok.ensures.ok))
