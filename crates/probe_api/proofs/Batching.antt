-- Boards whose WDL values are looked up side by side.
use Rattle.std.proofs.Common.{◌≡◌, ◌<◌, ◌≤◌, ◌+◌, ◌-◌, ◌∙◌, ℕ, List, Result, length, get_or, set, drop, inl, sym, ap, subst, arith}
use Rattle.std.specs.Prelude.{slice_range}
use Rattle.std.proofs.lemmas.List.{get_or-map, get_or_default, get_or-drop, get_or-take, length-map, length-take-le, length-drop}
use Rattle.judge_core.specs.declared.wdl.Wdl.{Wdl}
use Rattle.judge_core.specs.declared.fault.ProbeFault.{ProbeFault}
use Rattle.judge_core.specs.ProbeResult.{numbered}
use Rattle.judge_core.specs.Tables.{Holding, Tables}
use Rattle.probe_api.specs.declared.asking.Question.{Question}
use Rattle.probe_api.specs.declared.batch.Search.{Search}
use Rattle.probe_api.specs.declared.batch.Search.TheVariants.{Whole, ToAWin}
use Rattle.probe_api.specs.declared.board.Board.{Board}
use Rattle.probe_api.specs.declared.reply.Reply.{Reply}
use Rattle.probe_api.specs.Batches.{AreTold}
use Rattle.probe_api.specs.Boards.{shown}
use Rattle.probe_api.specs.Inside.{AreValues, IsAnswerBy, IsSound, answer_by, question_of}
use Rattle.probe_api.specs.Replies.{TellsBoard, probe_reply}
use Rattle.probe_api.proofs.Writing.{one_told}

-- the replies are told by any set that holds the same
pub told_by : (question : Question) (boards : List Board) (replies : List Reply) (n : ℕ) (s t : Holding) → s ≡ t → AreTold question s.tables boards replies n → AreTold question t.tables boards replies n
told_by question boards replies n s t e h = subst (λ (x : Holding). AreTold question x.tables boards replies n) e h

-- ---- one board

told_value : (search : Search) (tables : Tables) (b : Board) (wdl : Result Wdl ProbeFault) (reply : Reply) → IsSound b → IsAnswerBy search tables (shown b) wdl → reply ≡ probe_reply (numbered wdl) → TellsBoard (question_of search) tables b reply
told_value Whole tables b wdl reply sound probe told = record {
  position = λ _. record { wdl = wdl; answered = probe.0; is = probe.1; told = told };
  fault = λ fault first. absurd (sound.1 fault first);
  one = inl sound.0;
}
told_value ToAWin tables b wdl reply sound probe told = record {
  position = λ _. record { wdl = wdl; is = probe; told = told };
  fault = λ fault first. absurd (sound.1 fault first);
  one = inl sound.0;
}

-- ---- boards of a list from one place up to another

module _ (boards : List Board) (from to : ℕ) where
  in_range : (i : ℕ) (d : Board) → i < to - from → get_or (slice_range boards from to) i d ≡ get_or boards (from + i) d
  in_range i d low = get_or-take (to - from) (drop from boards) i d low ∙ get_or-drop from boards i d

  so_many : from ≤ to → to ≤ length boards → length (slice_range boards from to) ≡ to - from
  so_many low high = length-take-le (to - from) (drop from boards) (subst (λ n. to - from ≤ n) (sym (length-drop from boards)) (omega (arith, low, high)))

  module _ (search : Search) (tables : Tables) (values : List (Result Wdl ProbeFault)) (low : from ≤ to) (high : to ≤ length boards) (are : AreValues search tables (slice_range boards from to) values) where
    pub many_values : length values ≡ to - from
    many_values = ap length are.are ∙ length-map (slice_range boards from to) (λ (b : Board). answer_by search tables (shown b)) ∙ so_many low high

    module _ (i : ℕ) (there : i < length values) (d : Board) where
      within : i < to - from
      within = subst (λ n. i < n) many_values there

      here : get_or (slice_range boards from to) i d ≡ get_or boards (from + i) d
      here = in_range i d within

      inside : i < length (slice_range boards from to)
      inside = subst (λ n. i < n) (sym (so_many low high)) within

      is_sound : IsSound (get_or boards (from + i) d)
      is_sound = subst IsSound here (are.sound i d inside)

      is_value : (e : Result Wdl ProbeFault) → get_or values i e ≡ answer_by search tables (shown (get_or boards (from + i) d))
      is_value e =
          ap (λ (all : List (Result Wdl ProbeFault)). get_or all i e) are.are
          ∙ get_or-map (λ (b : Board). answer_by search tables (shown b)) (slice_range boards from to) i d e inside
          ∙ ap (λ (b : Board). answer_by search tables (shown b)) here

    pub told_next : (i : ℕ) (wdl : Result Wdl ProbeFault) (reply : Reply) (replies : List Reply) → length boards ≡ length replies → i < length values → wdl ≡ get_or values i wdl → reply ≡ probe_reply (numbered wdl) → AreTold (question_of search) tables boards replies (from + i) → AreTold (question_of search) tables boards (set replies (from + i) reply) (from + (i + 1))
    told_next i wdl reply replies same there is told before j below b r =
        let place : from + i < length boards = omega (arith, subst (λ n. i < n) many_values there, low, high) in
        one_told (TellsBoard (question_of search) tables) boards replies (from + i) (get_or boards (from + i) b) reply (omega (arith, place, same)) (λ d. get_or_default boards (from + i) d b place)
        (told_value search tables (get_or boards (from + i) b) wdl reply (is_sound i there b) (subst (IsAnswerBy search tables (shown (get_or boards (from + i) b))) (sym (is ∙ is_value i there b wdl)) (are.probe (shown (get_or boards (from + i) b)))) told) before j (omega (arith, below)) b r
