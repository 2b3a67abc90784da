-- Laws of fields, from formats whose reading is their spelling.
use Rattle.std.proofs.Common.{◌≡◌, ℕ, ◌+◌, List, [], ◌++◌, length, Ok, sym, ap, ◌∙◌, append-nil}
use Rattle.kz_spec_data.specs.Fields.{Reading, Format}
use Rattle.kz_laws_values.specs.Texts.{AreBytes}
use Rattle.kz_laws_values.specs.FieldLaws.{AreBetween, ReadsSpellings, ReadsWritten}
use Rattle.kz_laws_values.proofs.Exact.{small_from_bytes, result_same, Exact}
use Rattle.kz_laws_values.proofs.Written.{Writes, any}

pub between : {E X : Type 0} (f : Format E X) → Exact f → (x : X) (old new : Reading) → AreBytes old.left → f.read old ≡ Ok (x, new) → AreBetween f x old new
between {X = X} f ef x old new small h =
    let c = ef.given x old new (small_from_bytes old.left small) h in
    let again : f.read old ≡ Ok (x, record { at = old.at + length c.bytes; left = new.left }) =
    ap (λ bytes. f.read (record { at = old.at; left = bytes })) c.split ∙ ef.taken x c.bytes new.left old.at c.spelled in
    record {
      bytes = c.bytes;
      left = c.split;
      at = ap (λ (p : X × Reading). p.1.at) (result_same (f.read old) (x, new) (x, record { at = old.at + length c.bytes; left = new.left }) h again);
      spelled = c.spelled;
    }

pub alone : {E X : Type 0} (f : Format E X) → Exact f → (x y : X) (bytes more : List ℕ) → f.spells x bytes → f.spells y (bytes ++ more) → (x ≡ y) × (more ≡ [])
alone {X = X} f ef x y bytes more s t =
    let whole : f.read (record { at = 0; left = bytes ++ more }) ≡ Ok (y, record { at = 0 + length (bytes ++ more); left = [] }) =
    ap (λ left. f.read (record { at = 0; left = left })) (sym (append-nil (bytes ++ more))) ∙ ef.taken y (bytes ++ more) [] 0 t in
    let same = result_same (f.read (record { at = 0; left = bytes ++ more })) (x, record { at = 0 + length bytes; left = more }) (y, record { at = 0 + length (bytes ++ more); left = [] }) (ef.taken x bytes more 0 s) whole in
    (ap (λ (p : X × Reading). p.0) same, ap (λ (p : X × Reading). p.1.left) same)

pub reads_spellings : {E X : Type 0} (f : Format E X) → Exact f → ReadsSpellings f
reads_spellings f ef = record {
  accepted = λ x bytes s rest at. ef.taken x bytes rest at s;
  spelled = between f ef;
  alone = alone f ef;
}

pub reads_written : {E X : Type 0} (f : Format E X) → Exact f → Writes f any → ReadsWritten f
reads_written f ef wf x fits rest at = ef.taken x (f.written x) rest at (wf.writes x fits tt)
