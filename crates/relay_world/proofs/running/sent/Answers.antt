use Rattle.std.proofs.Common.{rules, ◌≡◌, ◌∙◌, ◌<◌, ◌+◌, ℕ, suc, List, [], ◌∷◌, ◌++◌, length, take, get_or, sym, ap, arith}
use Rattle.std.proofs.lemmas.List.{take_more, length-take-le}
use Rattle.board_core.specs.declared.moves.Move.{Move as Moves}
use Rattle.move_msg.specs.declared.stamp.Stamp.{Stamp}
use Rattle.move_msg.specs.declared.message.Message.{Message}
use Rattle.move_msg.specs.declared.message.Message.TheVariants.{Move}
use Rattle.move_msg.specs.declared.arbiter_id.Sender.{Sender}
use Rattle.move_msg.specs.declared.arbiter_id.Sender.TheVariants.{Source}
use Rattle.arbiter_core.specs.Answering.{sent_by}
use Rattle.relay_world.proofs.running.sent.Goals as goal

sent_end : (stamp : Stamp) (sender : Sender) (n : ℕ) (xs : List Moves) (x : Moves) → sent_by stamp sender n (xs ++ x ∷ []) ≡ sent_by stamp sender n xs ++ Move stamp sender (n + length xs) x ∷ []
sent_end stamp sender n [] x = ap (λ (k : ℕ). Move stamp sender k x ∷ []) {x = n} {y = n + 0} (omega arith)
sent_end stamp sender n (y ∷ ys) x =
    ap (λ (ms : List Message). Move stamp sender n y ∷ ms) (sent_end stamp sender (suc n) ys x)
    ∙ ap (λ (k : ℕ). Move stamp sender n y ∷ (sent_by stamp sender (suc n) ys ++ Move stamp sender k x ∷ [])) {x = suc n + length ys} {y = n + suc (length ys)} (omega arith)

sent_more : (stamp : Stamp) (moves : List Moves) (i : ℕ) (m : Moves) → i < length moves → m ≡ get_or moves i m → sent_by stamp Source 0 (take (i + 1) moves) ≡ sent_by stamp Source 0 (take i moves) ++ Move stamp Source i m ∷ []
sent_more stamp moves i m l is =
    ap (sent_by stamp Source 0) (take_more moves i m l ∙ ap (λ (x : Moves). take i moves ++ x ∷ []) (sym is))
    ∙ sent_end stamp Source 0 (take i moves) m
    ∙ ap (λ (k : ℕ). sent_by stamp Source 0 (take i moves) ++ Move stamp Source k m ∷ []) {x = 0 + length (take i moves)} {y = i} (let h = length-take-le i moves (omega arith) in omega (arith, h))

pub loop-i-preserved : goal.loop-i-preserved
loop-i-preserved c =
    let i : ℕ = c.loop-i.i in
    let m : Moves = c.index-moves-i.result in
    let items : c.push.new.self.items ≡ c.loop-i.log.items ++ Move c.args.stamp Source i m ∷ [] = search rules in
    items ∙ ap (λ (ms : List Message). ms ++ Move c.args.stamp Source i m ∷ []) c.loop-i.invariant ∙ sym (sent_more c.args.stamp c.args.moves.now i m c.loop-i-test.true c.index-moves-i.is)
