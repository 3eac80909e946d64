-- Stamps of games are bytes, so two of them have different paths.
use Rattle.std.proofs.Common.{◌≡◌, ◌≢◌, ◌∙◌, ◌<◌, ℕ, zero, suc, false, true, List, [], ◌∷◌, ◌++◌, codes, slice_index, sym, ap, subst, take, arith}
use Rattle.std.specs.Prelude.{Result, Ok}
use Rattle.std.specs.Int.{to_be_bytes, w32}
use Rattle.std.specs.List.{AllByRecursion}
use Rattle.std.specs.Str.{bytes_eq}
use Rattle.std.proofs.lemmas.List.{append_cancel_left, append_cancel_right}
use Rattle.hex.specs.Hex.{decode_of, encode_lower}
use Rattle.hex.proofs.HexLemmas.{decode_of-encode_lower}
use Rattle.sha2.specs.Sha256.{digest_bytes, sha256}
use Rattle.arbiter_server.proofs.Turning.{itself}
use Rattle.arbiter_server.specs.Games.{IsGameOf}
use Rattle.arbiter_server.specs.GameFolders.{kept_path}
use Rattle.board_core.specs.declared.parts.Parts.{Parts}
use Rattle.fen_text.specs.Written.{fen_of}
use Rattle.move_msg.specs.Stamps.{stamp_text}

-- ---- bytes

abbrev AreBytes : List ℕ → Type 0
AreBytes xs = AllByRecursion (λ b. b < 256) xs

bytes_join : (xs ys : List ℕ) → AreBytes xs → AreBytes ys → AreBytes (xs ++ ys)
bytes_join [] ys p q = q
bytes_join (x ∷ xs) ys p q = (p.0, bytes_join xs ys p.1 q)

bytes_take : (n : ℕ) (xs : List ℕ) → AreBytes xs → AreBytes (take n xs)
bytes_take zero xs p = tt
bytes_take (suc n) [] p = tt
bytes_take (suc n) (x ∷ xs) p = (p.0, bytes_take n xs p.1)

each_byte : (xs : List ℕ) → AreBytes xs → (i : ℕ) → slice_index xs i < 256
each_byte [] p i = omega arith
each_byte (x ∷ xs) p zero = p.0
each_byte (x ∷ xs) p (suc i) = each_byte xs p.1 i

word_bytes : (n : ℕ) → AreBytes (to_be_bytes w32 n)
word_bytes n = (omega arith, (omega arith, (omega arith, (omega arith, tt))))

digest_fits : (h : List ℕ) (n : ℕ) → AreBytes (digest_bytes h n)
unfolding digest_bytes
digest_fits h zero = tt
digest_fits h (suc n) = bytes_join (digest_bytes h n) (to_be_bytes w32 (slice_index h n)) (digest_fits h n) (word_bytes (slice_index h n))

sha_fits : (m : List ℕ) → AreBytes (sha256 m)
unfolding sha256
sha_fits m = digest_fits _ 8

pub stamp_fits : (manifest stamp name : List ℕ) (start : Parts) (delay : ℕ) → IsGameOf manifest stamp name start delay → (i : ℕ) → slice_index stamp i < 256
stamp_fits manifest stamp name start delay is =
    let text = stamp_text name (fen_of start) manifest delay in
    each_byte stamp (subst AreBytes (sym is.stamped) (bytes_take 16 (sha256 text) (sha_fits text)))

-- ---- paths

some_same : {A E : Type 0} (x y : A) → ◌≡◌ {A = Result A E} (Ok x) (Ok y) → x ≡ y
some_same x y e = cc

tail_same : {A : Type 0} (x y : A) (xs ys : List A) → x ∷ xs ≡ y ∷ ys → xs ≡ ys
tail_same x y xs ys e = cc

one_stamp : (folder a b : List ℕ) → ((i : ℕ) → slice_index a i < 256) → ((i : ℕ) → slice_index b i < 256) → kept_path folder a ≡ kept_path folder b → a ≡ b
one_stamp folder a b fits also e =
    let ending = codes ".kept" in
    let paths = append_cancel_right (folder ++ 47 ∷ encode_lower a) (folder ++ 47 ∷ encode_lower b) ending e in
    let digits = tail_same 47 47 (encode_lower a) (encode_lower b) (append_cancel_left folder (47 ∷ encode_lower a) (47 ∷ encode_lower b) paths) in
    some_same a b (sym (decode_of-encode_lower a fits) ∙ ap decode_of digits ∙ decode_of-encode_lower b also)

pub paths_apart : (folder a b : List ℕ) → ((i : ℕ) → slice_index a i < 256) → ((i : ℕ) → slice_index b i < 256) → bytes_eq b a ≡ false → kept_path folder b ≢ kept_path folder a
paths_apart folder a b fits also apart e =
    let same : b ≡ a = one_stamp folder b a also fits e in
    let f : false ≡ true = sym apart ∙ ap (λ (s : List ℕ). bytes_eq s a) same ∙ itself a in
    absurd (cc)

pub stamps_apart : (a b : List ℕ) → bytes_eq b a ≡ false → b ≢ a
stamps_apart a b apart same = let f : false ≡ true = sym apart ∙ ap (λ (s : List ℕ). bytes_eq s a) same ∙ itself a in absurd (cc)
