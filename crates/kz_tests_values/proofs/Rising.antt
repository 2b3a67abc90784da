-- A list that rises, one more item put.
use Rattle.std.proofs.Common.{ℕ, List}
use Rattle.kz_types.specs.Order.{bytes_cmp}
use Rattle.kz_types.specs.Ordered.{put, Rises}
use Rattle.kz_types.proofs.Order.{bytes_order}
use Rattle.kz_types.proofs.Lookup.{Rises-put}

pub rises_put : {A : Type 0} (key : A → List ℕ) (x : A) (ys : List A) → Rises bytes_cmp key ys → Rises bytes_cmp key (put bytes_cmp key x ys)
rises_put key x ys h = Rises-put bytes_order key x ys h
