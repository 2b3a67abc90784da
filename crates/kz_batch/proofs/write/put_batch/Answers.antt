use Rattle.std.proofs.Common.{◌≡◌, ℕ, ℤ, pos, negsuc, ◌+◌, ◌++◌, ◌∷◌, [], List, length, map, ap, sym, ◌∙◌, SFits, to_z-of_z, rules, arith}
use Rattle.std.specs.Prelude.{◌+ℤ◌}
use Rattle.std.specs.Int.{w16, w32, w64, to_be_bytes, cast_unsigned}
use Rattle.std.proofs.lemmas.List.{length-map}
use Rattle.kz_spec_data.specs.Checksum.{crc32c}
use Rattle.kz_spec_data.specs.Batches.{header_written, records_written}
use Rattle.kz_batch.proofs.Written.{seq}
use Rattle.kz_batch.proofs.write.put_batch.Goals as goal

pub returns : goal.returns
returns c =
    let b1 = to_be_bytes w64 (cast_unsigned w64 c.args.first) in
    let e1 : c.put_long.new.out.items ≡ c.args.out.now.items ++ b1 = c.in_ok-put_long.ensures ∙ ap (λ (y : ℤ). c.args.out.now.items ++ to_be_bytes w64 (cast_unsigned w64 y)) (to_z-of_z c.ranges.first) in
    let b2 = to_be_bytes w32 (length c.args.rest.now + 9) in
    let e2 : c.put_u32.new.out.items ≡ c.put_long.new.out.items ++ b2 = c.in_ok-put_u32.ensures in
    let b3 = to_be_bytes w32 (cast_unsigned w32 c.args.epoch) in
    let e3 : c.put_epoch.new.out.items ≡ c.put_u32.new.out.items ++ b3 = c.in_ok-put_epoch.ensures ∙ ap (λ (y : ℤ). c.put_u32.new.out.items ++ to_be_bytes w32 (cast_unsigned w32 y)) (to_z-of_z c.ranges.epoch) in
    let b4 = 2 ∷ [] in
    let e4 : c.put_bytes.new.out.items ≡ c.put_epoch.new.out.items ++ b4 = c.in_ok-put_bytes.ensures in
    let b5 = to_be_bytes w32 (crc32c c.args.rest.now) in
    let e5 : c.put_u32-2.new.out.items ≡ c.put_bytes.new.out.items ++ b5 = c.in_ok-put_u32-2.ensures ∙ ap (λ (y : ℕ). c.put_bytes.new.out.items ++ to_be_bytes w32 y) c.crc32c.ensures in
    let b6 = c.args.rest.now in
    let e6 : c.put_bytes-2.new.out.items ≡ c.put_u32-2.new.out.items ++ b6 = c.in_ok-put_bytes-2.ensures in
    let k5 : c.put_bytes-2.new.out.items ≡ c.put_bytes.new.out.items ++ (b5 ++ (b6)) = seq c.put_bytes.new.out.items b5 c.put_u32-2.new.out.items (b6) c.put_bytes-2.new.out.items e5 e6 in
    let k4 : c.put_bytes-2.new.out.items ≡ c.put_epoch.new.out.items ++ (b4 ++ (b5 ++ (b6))) = seq c.put_epoch.new.out.items b4 c.put_bytes.new.out.items (b5 ++ (b6)) c.put_bytes-2.new.out.items e4 k5 in
    let k3 : c.put_bytes-2.new.out.items ≡ c.put_u32.new.out.items ++ (b3 ++ (b4 ++ (b5 ++ (b6)))) = seq c.put_u32.new.out.items b3 c.put_epoch.new.out.items (b4 ++ (b5 ++ (b6))) c.put_bytes-2.new.out.items e3 k4 in
    let k2 : c.put_bytes-2.new.out.items ≡ c.put_long.new.out.items ++ (b2 ++ (b3 ++ (b4 ++ (b5 ++ (b6))))) = seq c.put_long.new.out.items b2 c.put_u32.new.out.items (b3 ++ (b4 ++ (b5 ++ (b6)))) c.put_bytes-2.new.out.items e2 k3 in
    let k1 : c.put_bytes-2.new.out.items ≡ c.args.out.now.items ++ (b1 ++ (b2 ++ (b3 ++ (b4 ++ (b5 ++ (b6)))))) = seq c.args.out.now.items b1 c.put_long.new.out.items (b2 ++ (b3 ++ (b4 ++ (b5 ++ (b6))))) c.put_bytes-2.new.out.items e1 k2 in
    k1
