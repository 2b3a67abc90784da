-- A log with one batch more, and without it again.
use Rattle.std.proofs.Common.{◌≡◌, ℤ, pos, ◌≤ℤ◌, ◌<◌, List, [], ◌∷◌, ◌++◌, length, None, refl, sym, ap, ◌∙◌, subst, arith}
use Rattle.std.proofs.lemmas.Int.{ints}
use Rattle.kz_types.specs.declared.limits.TheConstants.{MAX_LONG}
use Rattle.kz_types.specs.declared.log.BatchRow.{BatchRow}
use Rattle.kz_types.specs.declared.record.MetaRecord.{MetaRecord}
use Rattle.kz_spec_data.specs.Log.{Log, IsLog, last_of, last_end, full_log, new_batch, with_row}
use Rattle.kz_log.specs.Rows.{GoesOn}
use Rattle.kz_log.proofs.Offsets.{last_end-append}
use Rattle.kz_log.proofs.Batches.{Follow-push, EpochsNeverFall-push, room_for}

-- the batch of a request follows on the log
pub new_goes_on : (l : Log) (epoch now : ℤ) (items : List MetaRecord) → 0 < length items → full_log l items ≡ None → pos 1 ≤ℤ epoch → l.epoch ≤ℤ epoch → GoesOn l (new_batch l epoch now items)
new_goes_on l epoch now items some free elected climbs =
    let room = (room_for l items free).1 in record {
      first = refl;
      some = some;
      last = omega (arith, ints, room);
      climbs = climbs;
      elected = elected;
    }

pub is_log_on : (l : Log) (b : BatchRow) → IsLog l → GoesOn l b → IsLog (with_row l b)
is_log_on l b k on =
    let elected = on.elected in
    let last : last_end l.base (l.batches ++ b ∷ []) ≡ last_of b = last_end-append l.base l.batches (b ∷ []) in
    record {
      epoch = omega (arith, ints, elected);
      base = k.base;
      base_image = k.base_image;
      follow = Follow-push l.base l.batches b k.follow on.first on.some;
      epochs = EpochsNeverFall-push (pos 1) l.epoch b.epoch l.batches b k.epochs on.climbs on.elected on.climbs (omega (arith, ints));
      end = subst (λ o. o ≤ℤ MAX_LONG) (sym last) on.last;
    }

abbrev pub batch_at : ℤ → ℤ → ℤ → List MetaRecord → BatchRow
batch_at first epoch time items = record { first = first; epoch = epoch; time = time; items = items }

pub row_at : (first epoch time : ℤ) (items : List MetaRecord) (f e t : ℤ) (rs : List MetaRecord) → f ≡ first → e ≡ epoch → t ≡ time → rs ≡ items → batch_at f e t rs ≡ batch_at first epoch time items
row_at first epoch time items f e t rs first_is epoch_is time_is items_are =
    ap (λ x. batch_at x e t rs) first_is ∙ ap (λ x. batch_at first x t rs) epoch_is ∙ ap (λ x. batch_at first epoch x rs) time_is ∙ ap (batch_at first epoch time) items_are

-- a log to which a batch was added
pub pushed_is : (l : Log) (b : BatchRow) (epoch : ℤ) (bs : List BatchRow) → epoch ≡ b.epoch → bs ≡ l.batches ++ b ∷ [] → ◌≡◌ {A = Log} (record l { epoch = epoch; batches = bs }) (with_row l b)
pushed_is l b epoch bs e is = ap (λ x. record l { epoch = x; batches = bs }) e ∙ ap (λ xs. record l { epoch = b.epoch; batches = xs }) is

-- ---- without its last batch

tail_is : (x y : BatchRow) (xs ys : List BatchRow) → x ∷ xs ≡ y ∷ ys → xs ≡ ys
tail_is x y xs ys h = cc

head_is : (x y : BatchRow) (xs ys : List BatchRow) → x ∷ xs ≡ y ∷ ys → x ≡ y
head_is x y xs ys h = cc

no_end : (x y : BatchRow) (xs : List BatchRow) → [] ≡ xs ++ x ∷ [] → ⊥
no_end x y [] h = cc
no_end x y (z ∷ xs) h = cc

pub one_less : (xs ys : List BatchRow) (x y : BatchRow) → xs ++ x ∷ [] ≡ ys ++ y ∷ [] → xs ≡ ys
one_less [] [] x y h = refl
one_less [] (z ∷ ys) x y h = absurd (no_end y x ys (tail_is x z [] (ys ++ y ∷ []) h))
one_less (z ∷ xs) [] x y h = absurd (no_end x y xs (sym (tail_is z y (xs ++ x ∷ []) [] h)))
one_less (z ∷ xs) (w ∷ ys) x y h = ap (λ (b : BatchRow). b ∷ xs) (head_is z w (xs ++ x ∷ []) (ys ++ y ∷ []) h) ∙ ap (λ l. w ∷ l) (one_less xs ys x y (tail_is z w (xs ++ x ∷ []) (ys ++ y ∷ []) h))

-- what is left is the log before
pub popped_is : (l whole : Log) (b last : BatchRow) (epoch : ℤ) (bs : List BatchRow) → l.epoch ≡ epoch → whole ≡ with_row l b → whole.batches ≡ bs ++ last ∷ [] → ◌≡◌ {A = Log} (record whole { epoch = epoch; batches = bs }) l
popped_is l whole b last epoch bs epoch_is is rest =
    ap (λ (w : Log). record w { epoch = epoch; batches = bs }) is
    ∙ ap (λ x. record l { epoch = x; batches = bs }) (sym epoch_is)
    ∙ ap (λ xs. record l { batches = xs }) (one_less bs l.batches last b (sym rest ∙ ap (λ (w : Log). w.batches) is))
