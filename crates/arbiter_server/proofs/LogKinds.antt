-- The kinds of lines, by what stands behind a stamp.
use Rattle.std.proofs.Common.{◌≡◌, ◌∙◌, ◌+◌, ◌<◌, ◌≤◌, ℕ, Bool, true, false, List, [], ◌∷◌, ◌++◌, length, drop, None, cond, arith, refl, ap, append_assoc, length-append}
use Rattle.std.specs.Prelude.{codes, ltb}
use Rattle.std.proofs.lemmas.Bool.Decides.{Decides-ltb}
use Rattle.std.proofs.lemmas.List.{drop_at, length_push}
use Rattle.hex.specs.Hex.{encode_lower, lower_digits}
use Rattle.hex.proofs.HexLemmas.{length-encode_with}
use Rattle.move_msg.specs.TextLines.{ended}
use Rattle.move_msg.specs.declared.message.MessageFault.TheVariants as message
use Rattle.arbiter_core.specs.declared.fault.DeliverFault.{DeliverFault}
use Rattle.arbiter_core.specs.declared.fault.DeliverFault.TheVariants as deliver
use Rattle.arbiter_server.specs.declared.datagram_report.DatagramReport.{DatagramReport}
use Rattle.arbiter_server.specs.declared.datagram_report.DatagramReport.TheVariants as heard
use Rattle.arbiter_server.specs.LineLogs.{common, line_kind, of_no_message, place_in}
use Rattle.arbiter_server.specs.ServedLines.{heard_line, refused_datagram}
use Rattle.arbiter_server.specs.Told.{stamped}

digits_long : (stamp : List ℕ) → length stamp ≡ 16 → length (encode_lower stamp) ≡ 32
digits_long stamp size = let twice = length-encode_with lower_digits stamp in omega (arith, size, twice)

behind_stamp : (digits told : List ℕ) → length digits ≡ 32 → drop 33 (digits ++ codes " " ++ told) ≡ told
behind_stamp digits told size = drop_at (digits ++ codes " ") told 33 (length_push digits 32 ∙ ap (λ n. n + 1) size)

not_short : (n : ℕ) → 34 ≤ n → ltb n 34 ≡ false
not_short n long = by_test (ltb n 34) refl where
  by_test : (t : Bool) → ltb n 34 ≡ t → ltb n 34 ≡ false
  by_test false e = e
  by_test true e = absurd (let short : n < 34 = (Decides-ltb n 34).0 e in omega (arith, short, long))

pub kind_behind : (stamp words : List ℕ) → length stamp ≡ 16 → line_kind (ended (stamped stamp words)) ≡ place_in 0 common (ended words)
unfolding line_kind
kind_behind stamp words size =
    let digits = encode_lower stamp in
    let long = digits_long stamp size in
    let text = ended (stamped stamp words) in
    let split : text ≡ digits ++ codes " " ++ ended words = append_assoc (digits ++ codes " ") words (10 ∷ []) in
    let behind : drop 33 text ≡ ended words = ap (λ (l : List ℕ). drop 33 l) split ∙ behind_stamp digits (ended words) long in
    let size_is : length text ≡ length (digits ++ codes " ") + length (ended words) = ap (λ (l : List ℕ). length l) split ∙ length-append (digits ++ codes " ") (ended words) in
    let front : length (digits ++ codes " ") ≡ length digits + 1 = length_push digits 32 in
    let end : length (ended words) ≡ length words + 1 = length_push words 10 in
    ap (λ (t : Bool). cond t (place_in 3 of_no_message text) (place_in 0 common (drop 33 text))) (not_short (length text) (omega (arith, size_is, front, long, end))) ∙ ap (λ (l : List ℕ). place_in 0 common l) behind

-- what an arbiter tells is of no kind
refused_none : (fault : DeliverFault) → place_in 0 common (ended (refused_datagram fault)) ≡ None
refused_none (deliver.NotAMessage message.NoTag) = refl
refused_none (deliver.NotAMessage message.BadLength) = refl
refused_none (deliver.NotAMessage message.BadHead) = refl
refused_none (deliver.NotAMessage message.BadKind) = refl
refused_none (deliver.NotAMessage message.BadField) = refl
refused_none deliver.Stranger = refl
refused_none deliver.IllegalMove = refl
refused_none deliver.TooFarAhead = refl
refused_none deliver.TooLong = refl
refused_none deliver.KeeperFailed = refl
refused_none deliver.Down = refl
refused_none deliver.OutOfMemory = refl

pub heard_none : (h : DatagramReport) → place_in 0 common (ended (heard_line h)) ≡ None
heard_none (heard.Recorded count verdict) = refl
heard_none (heard.Refused fault) = refused_none fault
heard_none heard.KeeperLost = refl
heard_none heard.PortLost = refl
