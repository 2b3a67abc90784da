-- The log with another base.
use Rattle.std.proofs.Common.{◌≡◌, ℤ, List, ap, ◌∙◌, filter}
use Rattle.kz_types.specs.declared.log.BatchRow.{BatchRow}
use Rattle.kz_spec_data.specs.Image.{Image}
use Rattle.kz_spec_data.specs.Log.{Log, begins_after}

-- the log with a base, where its parts are these
abbrev pub based : Log → ℤ → Image → List BatchRow → Log
based l at i bs = record l { base = at; base_image = i; batches = bs }

pub based_is : (l m : Log) (epoch at base : ℤ) (i : Image) (bs : List BatchRow) → m ≡ l → epoch ≡ m.epoch → at ≡ base → bs ≡ filter (begins_after base) l.batches
    → ◌≡◌ {A = Log} (record { epoch = epoch; base = at; base_image = i; batches = bs }) (based l base i (filter (begins_after base) l.batches))
based_is l m epoch at base i bs same epoch_is at_is is =
    ap (λ e. record { epoch = e; base = at; base_image = i; batches = bs }) (epoch_is ∙ ap (λ (x : Log). x.epoch) same)
    ∙ ap (λ b. record { epoch = l.epoch; base = b; base_image = i; batches = bs }) at_is
    ∙ ap (λ xs. record { epoch = l.epoch; base = base; base_image = i; batches = xs }) is
