-- What a UDP port sends in answer.
use Rattle.std.proofs.Common.{◌≡◌, ◌⊎◌, ◌<◌, ◌≤◌, ◌+◌, ◌++◌, ℕ, List, [], ◌∷◌, Option, Some, inl, inr, ⊎_elim, refl, sym, ap, subst, ◌∙◌, append_assoc, append-nil, get_or, length, take, map, arith}
use Rattle.std.specs.List.{All, Contains}
use Rattle.std.specs.Prelude.{Result, Ok, Err, OnErr}
use Rattle.std.specs.Result.{result_and}
use Rattle.system_io.specs.Failures.{Counts, Risen}
use Rattle.std.proofs.lemmas.List.{length-map, take_more}
use Rattle.std.proofs.lemmas.List.Elements.{All-append, All-cons, All-contains, All-nil, Contains-append_cases, Contains-append_left, Contains-append_right}
use Rattle.std.specs.declared.net.socket_addr.SocketAddr.{SocketAddr}
use Rattle.system_io.proofs.HistoryLaws.{Passes-nil, Passes-trans}
use Rattle.system_io.specs.Answers.{AnswersFollow, EachIsSent, IsAnswer, NothingElseIsSent, SendsAll, all_sent}
use Rattle.system_io.specs.Histories.{Passes}
use Rattle.system_io.specs.Recipients.{address_named}
use Rattle.system_io.specs.Sockets.{SocketCall, Arrived, Sent}
use Rattle.system_io.specs.UdpPorts.{UdpFacts, none_came, sent_to, sent_to_each, who_at}
use Rattle.system_io.specs.declared.recipient.Addressed.{Addressed}
use Rattle.system_io.specs.declared.recipient.Recipient.{Recipient}
use Rattle.system_io.specs.declared.recipient.Recipient.TheVariants as recipient

-- ---- one after another

all_follow : (heard new : UdpFacts) (answers : List (List ℕ)) → SendsAll heard new answers → Passes heard.calls new.calls (all_sent heard.sender heard.to answers)
all_follow heard new [] same = subst (λ (n : UdpFacts). Passes heard.calls n.calls []) (sym same) (Passes-nil heard.calls)
all_follow heard new (answer ∷ answers) (mid, sends, rest) =
    let later : Passes mid.calls new.calls (all_sent mid.sender mid.to answers) = all_follow mid new answers rest in
    let by_to : Passes mid.calls new.calls (all_sent mid.sender heard.to answers) = subst (λ (t : List Recipient). Passes mid.calls new.calls (all_sent mid.sender t answers)) sends.to later in
    let by_sender : Passes mid.calls new.calls (all_sent heard.sender heard.to answers) = subst (λ (s : Option SocketAddr). Passes mid.calls new.calls (all_sent s heard.to answers)) sends.sender by_to in
    Passes-trans heard.calls mid.calls new.calls (sent_to_each heard.sender heard.to answer) (all_sent heard.sender heard.to answers) sends.calls by_sender

pub follow : AnswersFollow
follow old heard new bytes answers h all =
    let later : Passes heard.calls new.calls (all_sent heard.sender heard.to answers) = all_follow heard new answers all in
    let by_to : Passes heard.calls new.calls (all_sent heard.sender old.to answers) = subst (λ (t : List Recipient). Passes heard.calls new.calls (all_sent heard.sender t answers)) h.to later in
    let by_sender : Passes heard.calls new.calls (all_sent (Some h.from) old.to answers) = subst (λ (s : Option SocketAddr). Passes heard.calls new.calls (all_sent s old.to answers)) h.sender by_to in
    let whole : Passes old.calls new.calls ((none_came h.before ++ Arrived h.from h.datagram ∷ []) ++ all_sent (Some h.from) old.to answers) = Passes-trans old.calls heard.calls new.calls _ _ h.calls by_sender in
    subst (λ (l : List SocketCall). Passes old.calls new.calls l) (append_assoc (none_came h.before) (Arrived h.from h.datagram ∷ []) (all_sent (Some h.from) old.to answers)) whole

-- ---- to nobody else

first_is : {X : Type 0} (x : X) (xs : List X) → Contains (x ∷ xs) x
first_is x xs = Contains-append_left (x ∷ []) xs x (0, omega arith, refl)

in_rest : {X : Type 0} (x y : X) (xs : List X) → Contains xs y → Contains (x ∷ xs) y
in_rest x y xs p = Contains-append_right (x ∷ []) xs y p

one_is : (from : SocketAddr) (to : List Recipient) (answers : List (List ℕ)) (answer : List ℕ) → Contains answers answer → (who : Recipient) → Contains to who → All (IsAnswer from to answers) (sent_to (address_named (Some from) who) answer)
one_is from to answers answer p (recipient.At address) q = All-cons (IsAnswer from to answers) (Sent address answer) [] (p, inr q) (All-nil (IsAnswer from to answers))
one_is from to answers answer p recipient.Unknown q = All-nil (IsAnswer from to answers)
one_is from to answers answer p recipient.Sender q = All-cons (IsAnswer from to answers) (Sent from answer) [] (p, inl (refl, q)) (All-nil (IsAnswer from to answers))

each_is : (from : SocketAddr) (to : List Recipient) (answers : List (List ℕ)) (answer : List ℕ) → Contains answers answer → (some : List Recipient) → ((who : Recipient) → Contains some who → Contains to who) → All (IsAnswer from to answers) (sent_to_each (Some from) some answer)
unfolding sent_to_each
each_is from to answers answer p [] among = All-nil (IsAnswer from to answers)
each_is from to answers answer p (who ∷ others) among =
    All-append (IsAnswer from to answers) (sent_to (address_named (Some from) who) answer) (sent_to_each (Some from) others answer)
    (one_is from to answers answer p who (among who (first_is who others)))
    (each_is from to answers answer p others (λ other q. among other (in_rest who other others q)))

all_are : (from : SocketAddr) (to : List Recipient) (answers some : List (List ℕ)) → ((answer : List ℕ) → Contains some answer → Contains answers answer) → All (IsAnswer from to answers) (all_sent (Some from) to some)
all_are from to answers [] among = All-nil (IsAnswer from to answers)
all_are from to answers (answer ∷ others) among =
    All-append (IsAnswer from to answers) (sent_to_each (Some from) to answer) (all_sent (Some from) to others)
    (each_is from to answers answer (among answer (first_is answer others)) to (λ who q. q))
    (all_are from to answers others (λ other q. among other (in_rest answer other others q)))

pub nothing_else : NothingElseIsSent
nothing_else from to answers = all_are from to answers answers (λ answer q. q)

-- ---- to each of them

none_in : {X : Type 0} (x : X) → Contains [] x → ⊥
none_in x (k, p, e) = absurd (omega arith)

only_one : {X : Type 0} (x y : X) → Contains (x ∷ []) y → x ≡ y
only_one {X} x y p = All-contains (λ (z : X). x ≡ z) (x ∷ []) y (All-cons (λ (z : X). x ≡ z) x [] refl (All-nil (λ (z : X). x ≡ z))) p

by_first : {X : Type 0} (x y : X) (xs : List X) → Contains (x ∷ xs) y → (x ≡ y) ⊎ Contains xs y
by_first x y xs p = ⊎_elim (λ q. inl (only_one x y q)) (λ q. inr q) (Contains-append_cases (x ∷ []) xs y p)

goes : (from : SocketAddr) (to : List Recipient) (answer : List ℕ) (who : Recipient) (address : SocketAddr) → address_named (Some from) who ≡ Some address → Contains to who → Contains (sent_to_each (Some from) to answer) (Sent address answer)
unfolding sent_to_each
goes from [] answer who address is p = absurd (none_in who p)
goes from (first ∷ others) answer who address is p =
    ⊎_elim
    (λ (e : first ≡ who). Contains-append_left (sent_to (address_named (Some from) first) answer) (sent_to_each (Some from) others answer) (Sent address answer) (subst (λ (o : Option SocketAddr). Contains (sent_to o answer) (Sent address answer)) (sym (ap (address_named (Some from)) e ∙ is)) (first_is (Sent address answer) [])))
    (λ (q : Contains others who). Contains-append_right (sent_to (address_named (Some from) first) answer) (sent_to_each (Some from) others answer) (Sent address answer) (goes from others answer who address is q))
    (by_first first who others p)

among_all : (from : SocketAddr) (to : List Recipient) (answers : List (List ℕ)) (answer : List ℕ) (call : SocketCall) → Contains answers answer → Contains (sent_to_each (Some from) to answer) call → Contains (all_sent (Some from) to answers) call
among_all from to [] answer call p q = absurd (none_in answer p)
among_all from to (first ∷ others) answer call p q =
    ⊎_elim
    (λ (e : first ≡ answer). Contains-append_left (sent_to_each (Some from) to first) (all_sent (Some from) to others) call (subst (λ (a : List ℕ). Contains (sent_to_each (Some from) to a) call) (sym e) q))
    (λ (r : Contains others answer). Contains-append_right (sent_to_each (Some from) to first) (all_sent (Some from) to others) call (among_all from to others answer call r q))
    (by_first first answer others p)

pub each : EachIsSent
each from to answers answer p =
    (λ q. among_all from to answers answer (Sent from answer) p (goes from to answer recipient.Sender from refl q), λ address q. among_all from to answers answer (Sent address answer) p (goes from to answer (recipient.At address) address refl q))

-- ---- so far

pub to_nobody : (sender : Option SocketAddr) (to : List Recipient) (bytes : List ℕ) (a : Option (List SocketCall)) → Passes a a (sent_to_each sender (take 0 to) bytes)
unfolding sent_to_each
to_nobody sender to bytes a = Passes-nil a

each_more : (sender : Option SocketAddr) (to : List Recipient) (who : Recipient) (bytes : List ℕ) → sent_to_each sender (to ++ who ∷ []) bytes ≡ sent_to_each sender to bytes ++ sent_to (address_named sender who) bytes
unfolding sent_to_each
each_more sender [] who bytes = append-nil (sent_to (address_named sender who) bytes)
each_more sender (first ∷ others) who bytes = ap (λ (l : List SocketCall). sent_to (address_named sender first) bytes ++ l) (each_more sender others who bytes) ∙ sym (append_assoc (sent_to (address_named sender first) bytes) (sent_to_each sender others bytes) (sent_to (address_named sender who) bytes))

pub to_one_more : (sender : Option SocketAddr) (to : List Recipient) (n : ℕ) (bytes : List ℕ) (a b c : Option (List SocketCall)) → n < length to → Passes a b (sent_to_each sender (take n to) bytes) → Passes b c (sent_to (address_named sender (get_or to n recipient.Unknown)) bytes) → Passes a c (sent_to_each sender (take (n + 1) to) bytes)
to_one_more sender to n bytes a b c some p q =
    let calls : sent_to_each sender (take (n + 1) to) bytes ≡ sent_to_each sender (take n to) bytes ++ sent_to (address_named sender (get_or to n recipient.Unknown)) bytes = ap (λ (l : List Recipient). sent_to_each sender l bytes) (take_more to n recipient.Unknown some) ∙ each_more sender (take n to) (get_or to n recipient.Unknown) bytes in
    subst (λ (l : List SocketCall). Passes a c l) (sym calls) (Passes-trans a b c _ _ p q)

-- where a send has failed, the count rose
pub after_one : {A B E : Type 0} (one : Result A E) (sent : Result B E) (old mid new : ℕ) → old ≤ mid → Counts one mid new → OnErr sent (Risen old mid) → OnErr (result_and one sent) (Risen old new)
after_one (Ok x) (Ok y) old mid new le counts before = tt
after_one (Ok x) (Err e) old mid new le counts before = subst (λ (n : ℕ). Risen old n) (sym counts) before
after_one (Err e) sent old mid new le counts before = ⊎_elim (λ (lt : mid < new). inl (omega arith)) (λ top. inr top) counts

-- and the next one, where the sender and the words are the same
pub to_next : (sender sender' : Option SocketAddr) (to to' : List Addressed) (n end : ℕ) (bytes : List ℕ) (a b c : Option (List SocketCall)) → sender' ≡ sender → to' ≡ to → n < end → end ≡ length to → Passes a b (sent_to_each sender (take n (map (λ r. r.who) to)) bytes) → Passes b c (sent_to (address_named sender' (who_at to' n)) bytes) → Passes a c (sent_to_each sender (take (n + 1) (map (λ r. r.who) to)) bytes)
to_next sender sender' to to' n end bytes a b c same_sender same_to some is_end p q =
    let q1 : Passes b c (sent_to (address_named sender (who_at to' n)) bytes) = subst (λ (s : Option SocketAddr). Passes b c (sent_to (address_named s (who_at to' n)) bytes)) same_sender q in
    let q2 : Passes b c (sent_to (address_named sender (who_at to n)) bytes) = subst (λ (t : List Addressed). Passes b c (sent_to (address_named sender (who_at t n)) bytes)) same_to q1 in
    let within : n < length (map (λ (r : Addressed). r.who) to) = subst (λ (m : ℕ). n < m) (is_end ∙ sym (length-map to (λ (r : Addressed). r.who))) some in
    to_one_more sender (map (λ r. r.who) to) n bytes a b c within p q2
