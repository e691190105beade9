-- Laws of sessions: bytes fed one after the other, and the bytes that are kept of a line.
-- Assumes nothing.
use Rattle.std.specs.Prelude.{◌≡◌, refl, Bool, true, false, cond, List, [], ◌∷◌, ◌++◌, ℕ, zero, suc, ◌+◌, ◌-◌, ◌≤◌, ◌<◌, min, eqb, length, take}
use Rattle.std.proofs.Common.{sym, subst, ap, ap₂, ◌∙◌, arith, append-nil, append_assoc, length-append, length-take, length-take-le, take-take, take_all, take_at}
use Rattle.std.proofs.Math.Nat.{sub-zero, zero-sub, suc-sub-suc}
use Rattle.std.proofs.lemmas.List.{take_min}
use Rattle.events.specs.Places.{index_of, index_after, Cut}
use Rattle.events.specs.Fields.{line_feed}
use Rattle.events.specs.FieldLaws.{cut_parts}
use Rattle.events.specs.EventLaws.{kept_event}
use Rattle.record.specs.declared.Rank.{Rank}
use Rattle.texts.specs.Outputs.{HasRoom}
use Rattle.texts.specs.TextLaws.{prints_none, prints_then}
use Rattle.texts.specs.declared.Output.{Output}
use Rattle.answers.specs.Answers.{Reply, reply_by, reply_to, Replies}
use Rattle.script.specs.LineBytes.{LineBytes}
use Rattle.script.specs.Sessions.{Session, goes_on, ends, ends_by, fed, finished_by, finished, start, output_of, Stands, Follows, Advance, Finish}
use Rattle.script.specs.declared.sessions.Progress.{Progress}

-- ---- sessions

fed_append : (g : Session) (xs ys : List ℕ) → fed g (xs ++ ys) ≡ fed (fed g xs) ys
unfolding fed
fed_append g [] ys = refl
fed_append g (x ∷ xs) ys = fed_append (cond (eqb x line_feed) (ends g) (goes_on g (x ∷ []))) xs ys

nothing_more : (g : Session) → g ≡ goes_on g []
unfolding goes_on
nothing_more g = ap (λ (b : List ℕ). record { rank = g.rank; memory = g.memory; begun = b; printed = g.printed })
    (sym (append-nil g.begun))

one_more : (g : Session) (b : ℕ) (xs : List ℕ) → goes_on (goes_on g (b ∷ [])) xs ≡ goes_on g (b ∷ xs)
unfolding goes_on
one_more g b xs = ap (λ (s : List ℕ). record { rank = g.rank; memory = g.memory; begun = s; printed = g.printed })
    (append_assoc g.begun (b ∷ []) xs)

line_step : (t : Bool) (g : Session) (b : ℕ) (bs : List ℕ) (p : ℕ) → eqb b line_feed ≡ t
    → fed (goes_on g (b ∷ [])) (take p bs) ≡ goes_on (goes_on g (b ∷ [])) (take p bs)
    → fed g (take (index_after t p) (b ∷ bs)) ≡ goes_on g (take (index_after t p) (b ∷ bs))
unfolding fed index_after
line_step true g b bs p e h = nothing_more g
line_step false g b bs p e h = ap (λ (u : Bool). fed (cond u (ends g) (goes_on g (b ∷ []))) (take p bs)) e ∙ h ∙ one_more g b (take p bs)

-- up to a line feed no line ends
fed_line : (g : Session) (s : List ℕ) → fed g (take (index_of line_feed s) s) ≡ goes_on g (take (index_of line_feed s) s)
unfolding fed index_of
fed_line g [] = nothing_more g
fed_line g (b ∷ bs) = line_step (eqb b line_feed) g b bs (index_of line_feed bs) refl (fed_line (goes_on g (b ∷ [])) bs)

-- without one none ends
fed_whole : (g : Session) (s : List ℕ) → index_of line_feed s ≡ length s → fed g s ≡ goes_on g s
fed_whole g s none =
    let all : take (index_of line_feed s) s ≡ s = take_all (index_of line_feed s) s (omega arith) in
    ap (fed g) (sym all) ∙ fed_line g s ∙ ap (goes_on g) all

-- at one it ends
fed_end : {s end behind : List ℕ} → Cut line_feed s end behind → (g : Session) → fed g (end ++ (line_feed ∷ [])) ≡ ends (goes_on g end)
unfolding fed
fed_end {s} {end} h g =
    let line : fed g end ≡ goes_on g end = rw h.before_is (fed_line g s) in
    fed_append g end (line_feed ∷ []) ∙ ap (λ (x : Session). fed x (line_feed ∷ [])) line

-- ---- the bytes kept of a line

take_append : (k : ℕ) (s xs : List ℕ) → take k (s ++ xs) ≡ take k s ++ take (k - length s) xs
take_append zero s xs = ap (λ (n : ℕ). take n xs) (sym (zero-sub (length s)))
take_append (suc k) [] xs = ap (λ (n : ℕ). take n xs) (sym (sub-zero (suc k)))
take_append (suc k) (x ∷ s) xs =
    ap (λ (t : List ℕ). x ∷ t) (take_append k s xs ∙ ap (λ (n : ℕ). take k s ++ take n xs) (sym (suc-sub-suc k (length s))))

-- bytes xs are laid behind the first k bytes of a line, as many as fit
pub kept_view : (b xs : List ℕ) (k n : ℕ) (rest : List ℕ) → length b ≡ 41 → k ≤ 41 → n ≡ min (length xs) (41 - k)
    → take (k + n) (take k b ++ (take n xs ++ rest)) ≡ take 41 (take k b ++ xs)
kept_view b xs k n rest size most fits =
    let front : length (take k b) ≡ k = length-take-le k b (omega arith) in
    let laid : length (take k b ++ take n xs) ≡ k + n = omega (arith, length-append (take k b) (take n xs), front, length-take n xs) in
    let same : take n xs ≡ take (41 - length (take k b)) xs =
    ap (λ (m : ℕ). take m xs) (fits ∙ omega (arith, front)) ∙ take_min (41 - length (take k b)) xs in
    ap (take (k + n)) (sym (append_assoc (take k b) (take n xs) rest))
    ∙ take_at (take k b ++ take n xs) rest (k + n) laid
    ∙ ap₂ ◌++◌ (sym (take_all 41 (take k b) (omega (arith, front)))) same
    ∙ sym (take_append 41 (take k b) xs)

-- the first 41 bytes tell those of the line that goes on
kept_more : {l : List ℕ} (s xs : List ℕ) → l ≡ take 41 s → take 41 (l ++ xs) ≡ take 41 (s ++ xs)
kept_more {l} s xs e =
    let left : 41 - length (take 41 s) ≡ 41 - length s = omega (arith, length-take 41 s) in
    ap (λ (x : List ℕ). take 41 (x ++ xs)) e
    ∙ take_append 41 (take 41 s) xs
    ∙ ap₂ (λ (x : List ℕ) (k : ℕ). x ++ take k xs) (take-take 41 41 s (omega arith)) left
    ∙ sym (take_append 41 s xs)

-- the reply to a line is that to its first 41 bytes
reply_kept : (s : List ℕ) {t : List ℕ} {r q : Rank} {m n : List ℕ} → t ≡ take 41 s → r ≡ q → m ≡ n → reply_to t r m ≡ reply_to s q n
unfolding reply_to
reply_kept s {t} {r} {q} {m} {n} e f h =
    ap (λ (u : List ℕ). reply_to u r m) e ∙ ap (λ v. reply_by v r m) (kept_event s) ∙ ap₂ (λ (x : Rank) (y : List ℕ). reply_to s x y) f h

-- a session whose line ends
stands_ended : (g : Session) {q : Reply} {r : Rank} {l : LineBytes} {m' : List ℕ} {o o' : Output} → q ≡ reply_to g.begun g.rank g.memory
    → Replies q r m' o o' → l.bytes ≡ [] → Stands (ends g) (record { rank = r; line = l }) m'
unfolding ends ends_by
stands_ended g same h e =
    record {
      rank_is = h.record_is ∙ ap (λ (x : Reply). x.rank) same;
      memory_is = h.memory_is ∙ ap (λ (x : Reply). x.memory) same;
      begun_is = e;
    }

prints_ended : (g : Session) {q : Reply} → q ≡ reply_to g.begun g.rank g.memory → (ends g).printed ≡ g.printed ++ q.text
unfolding ends ends_by
prints_ended g same = ap (λ (x : Reply). g.printed ++ x.text) (sym same)

-- ---- a run over one line

-- the line goes on
pub advance_on : {p : Progress} {s : List ℕ} {l : LineBytes} (m : List ℕ) (o : Output) → index_of line_feed s ≡ length s
    → l.bytes ≡ take 41 (p.line.bytes ++ s)
    → Advance p (record { rank = p.rank; line = l }) s [] m o m o
unfolding goes_on
advance_on {p} {s} m o none e =
    record {
      taken = s;
      parts = sym (append-nil s);
      text = [];
      laid = prints_none o;
      follows = record {
        stands = λ g h.
            rw (fed_whole g s none)
            (record { rank_is = h.rank_is; memory_is = h.memory_is; begun_is = e ∙ kept_more g.begun s h.begun_is });
        prints = λ g h. ap (λ (x : Session). x.printed) (fed_whole g s none) ∙ sym (append-nil g.printed);
      };
    }

-- the line ends
pub advance_end : {p : Progress} {s end behind l : List ℕ} {l' : LineBytes} {m m' : List ℕ} {o o' : Output} {r : Rank} → Cut line_feed s end behind
    → l ≡ take 41 (p.line.bytes ++ end) → Replies (reply_to l p.rank m) r m' o o' → l'.bytes ≡ []
    → Advance p (record { rank = r; line = l' }) s behind m o m' o'
unfolding goes_on
advance_end {p} {s} {end} {behind} {l} {l'} {m} cut e h none =
    let same : (g : Session) → Stands g p m → reply_to l p.rank m ≡ reply_to (g.begun ++ end) g.rank g.memory =
    λ g at. reply_kept (g.begun ++ end) (e ∙ kept_more g.begun end at.begun_is) at.rank_is at.memory_is in
    record {
      taken = end ++ (line_feed ∷ []);
      parts = cut_parts cut;
      text = (reply_to l p.rank m).text;
      laid = h.output_is;
      follows = record {
        stands = λ g at. rw (fed_end cut g) (stands_ended (goes_on g end) (same g at) h none);
        prints = λ g at. ap (λ (x : Session). x.printed) (fed_end cut g) ∙ prints_ended (goes_on g end) (same g at);
      };
    }

-- ---- a run over several lines

-- nothing was taken up
pub follows_none : (p : Progress) (m : List ℕ) → Follows p p [] [] m m
unfolding fed
follows_none p m = record { stands = λ g h. h; prints = λ g h. sym (append-nil g.printed) }

-- one part behind another
pub follows_then : {p q r : Progress} {s s' t t' m m' m'' : List ℕ} → Follows p q s t m m' → Follows q r s' t' m' m''
    → Follows p r (s ++ s') (t ++ t') m m''
follows_then {p} {q} {r} {s} {s'} {t} {t'} f n =
    record {
      stands = λ g at. rw (fed_append g s s') (n.stands (fed g s) (f.stands g at));
      prints = λ g at.
          ap (λ (x : Session). x.printed) (fed_append g s s')
          ∙ n.prints (fed g s) (f.stands g at)
          ∙ ap (λ (x : List ℕ). x ++ t') (f.prints g at)
          ∙ append_assoc g.printed t t';
    }

-- all of the input was taken up
pub follows_whole : {p r : Progress} {s m m' : List ℕ} {o o' : Output} → (a : Advance p r s [] m o m' o') → Follows p r s a.text m m'
follows_whole {p} {r} {s} {m} {m'} a =
    subst (λ (x : List ℕ). Follows p r x a.text m m') (sym (append-nil a.taken) ∙ sym a.parts) a.follows

pub advance_none : (p : Progress) (bytes m : List ℕ) (o : Output) → Advance p p bytes bytes m o m o
advance_none p bytes m o = record { taken = []; parts = refl; text = []; laid = prints_none o; follows = follows_none p m }

pub advance_then : {p q r : Progress} {bytes rest rest' m m' m'' : List ℕ} {o o' o'' : Output} → Advance p q bytes rest m o m' o'
    → Advance q r rest rest' m' o' m'' o'' → Advance p r bytes rest' m o m'' o''
advance_then {p} {q} {r} {bytes} {rest} {rest'} a b =
    record {
      taken = a.taken ++ b.taken;
      parts = a.parts ∙ ap (λ (x : List ℕ). a.taken ++ x) b.parts ∙ sym (append_assoc a.taken b.taken rest');
      text = a.text ++ b.text;
      laid = prints_then a.laid b.laid;
      follows = follows_then a.follows b.follows;
    }

pub advance_length : {p r : Progress} {bytes rest m m' : List ℕ} {o o' : Output} (a : Advance p r bytes rest m o m' o')
    → length bytes ≡ length a.taken + length rest
advance_length {p} {r} {bytes} {rest} a = ap length a.parts ∙ length-append a.taken rest

-- a run that goes on from start has come to p, with a rest of the bytes left. Where nothing was taken up the output has its room.
pub record Going (start p : Progress) (bytes rest m₀ : List ℕ) (o₀ : Output) (m : List ℕ) (o : Output) : Type 0 where
  pub advance : Advance start p bytes rest m₀ o₀ m o
  pub memory_size : length m ≡ length m₀
  pub unmoved : length rest ≡ length bytes → HasRoom o

pub going_none : (start : Progress) (bytes m : List ℕ) (o : Output) → HasRoom o → Going start start bytes bytes m o m o
going_none start bytes m o room = record { advance = advance_none start bytes m o; memory_size = refl; unmoved = λ e. room }

pub going_more : {start p r : Progress} {bytes rest rest' m₀ m m' : List ℕ} {o₀ o o' : Output} → Going start p bytes rest m₀ o₀ m o
    → Advance p r rest rest' m o m' o' → length rest' < length rest → length m' ≡ length m → Going start r bytes rest' m₀ o₀ m' o'
going_more h a moved e =
    record {
      advance = advance_then h.advance a;
      memory_size = e ∙ h.memory_size;
      unmoved = λ same. absurd (omega (arith, advance_length h.advance));
    }

-- ---- the end of the input

none_begun : (s : List ℕ) → [] ≡ take 41 s → s ≡ []
none_begun [] e = refl
none_begun (b ∷ s) e = cc

pub finish_none : {p : Progress} (m : List ℕ) (o : Output) → p.line.bytes ≡ [] → Finish p m o m o
unfolding finished finished_by
finish_none {p} m o e =
    let same : (g : Session) → Stands g p m → finished g ≡ g =
    λ g h. ap (λ (s : List ℕ). finished_by s g) (none_begun g.begun (sym e ∙ h.begun_is)) in
    record {
      text = [];
      laid = prints_none o;
      memory_is = λ g h. h.memory_is ∙ ap (λ (x : Session). x.memory) (sym (same g h));
      prints = λ g h. ap (λ (x : Session). x.printed) (same g h) ∙ sym (append-nil g.printed);
    }

some_begun : (s : List ℕ) (g : Session) → (s ≡ [] → ⊥) → finished_by s g ≡ ends g
unfolding finished_by
some_begun [] g h = absurd (h refl)
some_begun (b ∷ s) g h = refl

pub finish_line : {p : Progress} {m m' : List ℕ} {o o' : Output} {r : Rank} → (p.line.bytes ≡ [] → ⊥) → Replies (reply_to p.line.bytes p.rank m) r m' o o'
    → Finish p m o m' o'
unfolding finished
finish_line {p} {m} some h =
    let reply : (g : Session) → Stands g p m → reply_to p.line.bytes p.rank m ≡ reply_to g.begun g.rank g.memory =
    λ g at. reply_kept g.begun at.begun_is at.rank_is at.memory_is in
    let same : (g : Session) → Stands g p m → finished g ≡ ends g =
    λ g at. some_begun g.begun g (λ e. some (at.begun_is ∙ ap (λ (s : List ℕ). take 41 s) e)) in
    record {
      text = (reply_to p.line.bytes p.rank m).text;
      laid = h.output_is;
      memory_is = λ g at. (stands_ended g {l = record { bytes = []; spare = [] }} (reply g at) h refl).memory_is ∙ ap (λ (x : Session). x.memory) (sym (same g at));
      prints = λ g at. ap (λ (x : Session). x.printed) (same g at) ∙ prints_ended g (reply g at);
    }

-- ---- a whole input

-- what a run that begins with no line begun prints for the input and at its end is all that is printed for it
pub whole_output : {p r : Progress} {s t m m' m'' : List ℕ} {o o' : Output} → p.line.bytes ≡ [] → Follows p r s t m m'
    → (f : Finish r m' o m'' o') → output_of p.rank m s ≡ t ++ f.text
unfolding output_of start
whole_output {p} {r} {s} {t} {m} none h f =
    let g : Session = start p.rank m in
    let at : Stands g p m = record { rank_is = refl; memory_is = refl; begun_is = none } in
    f.prints (fed g s) (h.stands g at) ∙ ap (λ (x : List ℕ). x ++ f.text) (h.prints g at)
