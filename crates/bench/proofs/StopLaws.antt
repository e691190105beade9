-- Laws of what a run leaves in the memory where it stops.
-- Assumes nothing.
use Rattle.std.proofs.Common.{◌≡◌, sym, ap, ◌∙◌, ℕ, ◌≤◌, ◌++◌, min, List, length, take, Ok, Err, Result, OnErr, arith, length-take, take-take, take_at, refl}
use Rattle.std.proofs.lemmas.List.{take_min}
use Rattle.script.specs.Sessions.{fed, Follows}
use Rattle.script.specs.declared.sessions.Progress.{Progress}
use Rattle.bench.specs.Stops.{Fed}

pub on_err : {T E P : Type 0} (r : Result T E) → P → OnErr r P
on_err (Ok x) h = tt
on_err (Err y) h = h

-- the first bytes were followed
pub fed_followed : {p r : Progress} {s taken t m m' : List ℕ} (rest : List ℕ) → s ≡ taken ++ rest → Follows p r taken t m m' → Fed p s m m'
fed_followed {p} {r} {s} {taken} rest e f =
    let front : take (length taken) s ≡ taken = ap (take (length taken)) e ∙ take_at taken rest (length taken) refl in
    (length taken, λ g h. (f.stands g h).memory_is ∙ ap (λ (xs : List ℕ). (fed g xs).memory) (sym front))

-- nothing was taken up
pub fed_none : (p : Progress) (s m : List ℕ) → Fed p s m m
unfolding fed
fed_none p s m = (0, λ g h. h.memory_is)

-- some of the first bytes are some of all
pub fed_front : (p : Progress) (n : ℕ) (s m m' : List ℕ) → Fed p (take n s) m m' → Fed p s m m'
fed_front p n s m m' f =
    let k : ℕ = min f.0 (length (take n s)) in
    let within : k ≤ n = omega (arith, length-take n s) in
    let same : take f.0 (take n s) ≡ take k s = sym (take_min f.0 (take n s)) ∙ take-take k n s within in
    (k, λ g h. f.1 g h ∙ ap (λ (xs : List ℕ). (fed g xs).memory) same)
