-- Reading a file piece by piece. reads-more: a read behind what was read; progress-start, progress-more: what holds from read to read;
-- progress-end, progress-long: what it gives at the end of the file, and where more is read than there is room for.
use Rattle.std.proofs.Common.{◌≡◌, ℕ, ◌+◌, ◌<◌, ◌≤◌, Bool, false, List, [], ◌++◌, length, take, drop, Option, Some, None, refl, sym, ap, ◌∙◌, subst, arith, ◌⊎◌, inl, inr}
use Rattle.std.specs.Prelude.{IfSome, IsSomeAnd}
use Rattle.std.proofs.lemmas.List.{take_all, length-append, length-drop}
use Rattle.std.proofs.Math.Seq.{take-add, take-append_seam}
use Rattle.std.proofs.lemmas.List.{length-take}
use Rattle.st_base.specs.Outside.{IsReadAt}
use Rattle.st_main.specs.Reading.{IsFront, Extends, Reads, HasStart}

-- the bytes that a read put into the front of the buffer
piece_is : (file : List ℕ) (place n : ℕ) (zeros buffer : List ℕ) → IsReadAt file place n zeros buffer → take n buffer ≡ take n (drop place file)
piece_is file place n zeros buffer r =
    let piece = take n (drop place file) in
    let there = r.there in
    let long : length piece ≡ n = let e = length-take n (drop place file) in grind (arith, e, there) in
    ap (take n) r.front ∙ ap (λ k. take k (piece ++ drop n zeros)) (sym long) ∙ take-append_seam piece (drop n zeros)

front_more : (file old new : List ℕ) (n : ℕ) → n ≤ length (drop (length old) file) → new ≡ old ++ take n (drop (length old) file) → IsFront file old → new ≡ take (length old + n) file
front_more file old new n there e f = e ∙ ap (λ t. t ++ take n (drop (length old) file)) f.front ∙ sym (take-add (length old) n file)

new_long : (file old new : List ℕ) (n : ℕ) → n ≤ length (drop (length old) file) → new ≡ old ++ take n (drop (length old) file) → length new ≡ length old + n
new_long file old new n there e =
    let long = length-take n (drop (length old) file) in
    let both = length-append old (take n (drop (length old) file)) in
    let same = ap length e in
    grind (arith, long, both, same, there)

extends : (file old new zeros buffer : List ℕ) (n : ℕ) (more : Bool) → IsReadAt file (length old) n zeros buffer → 0 < length zeros → new ≡ old ++ take n buffer → (more ≡ false → n ≡ 0) → Extends file old new more
extends file old new zeros buffer n more r some e none =
    let there = r.there in
    let same : new ≡ old ++ take n (drop (length old) file) = e ∙ ap (λ t. old ++ t) (piece_is file (length old) n zeros buffer r) in
    let long = new_long file old new n there same in
    let rest = length-drop (length old) file in
    record {
      front = λ f. let within = f.within in record {
        front = front_more file old new n there same f ∙ ap (λ k. take k file) (sym long);
        within = omega (arith, long, there, rest, within);
      };
      all = λ f m.
          let nothing = none m in
          let end = r.end some nothing in
          front_more file old new n there same f ∙ take_all (length old + n) file (omega (arith, end));
    }

-- a read behind what was read, of the file of the name where the files tell what they hold
reads_at : (o : Option (List ℕ)) (old new zeros buffer : List ℕ) (n : ℕ) (more : Bool) → IsSomeAnd o (λ file. IsReadAt file (length old) n zeros buffer) → 0 < length zeros → new ≡ old ++ take n buffer → (more ≡ false → n ≡ 0) → IsSomeAnd o (λ file. Extends file old new more)
reads_at None old new zeros buffer n more r some e none = r
reads_at (Some file) old new zeros buffer n more r some e none = extends file old new zeros buffer n more r some e none

pub reads-more : (contents : Option (List ℕ → Option (List ℕ))) (name old new zeros buffer : List ℕ) (n : ℕ) (more : Bool) → IfSome contents (λ files. IsSomeAnd (files name) (λ file. IsReadAt file (length old) n zeros buffer)) → 0 < length zeros → new ≡ old ++ take n buffer → (more ≡ false → n ≡ 0) → Reads contents name old new more
reads-more None name old new zeros buffer n more r some e none = tt
reads-more (Some files) name old new zeros buffer n more r some e none = reads_at (files name) old new zeros buffer n more r some e none

-- ---- from read to read

abbrev ProgressAt : Option (List ℕ) → List ℕ → Type 0
ProgressAt o text = (text ≡ []) ⊎ IsSomeAnd o (λ file. IsFront file text)

-- nothing was read, or the text is the front of the file
abbrev pub Progress : Option (List ℕ → Option (List ℕ)) → List ℕ → List ℕ → Type 0
Progress contents name text = IfSome contents (λ files. ProgressAt (files name) text)

pub progress-start : (contents : Option (List ℕ → Option (List ℕ))) (name text : List ℕ) → text ≡ [] → Progress contents name text
progress-start None name text e = tt
progress-start (Some files) name text e = inl e

front_of_nothing : (file text : List ℕ) → text ≡ [] → IsFront file text
front_of_nothing file text e = subst (IsFront file) (sym e) (record { front = refl; within = omega arith })

front_at : (file text : List ℕ) → ProgressAt (Some file) text → IsFront file text
front_at file text (inl e) = front_of_nothing file text e
front_at file text (inr f) = f

progress_at : (o : Option (List ℕ)) (old new : List ℕ) (more : Bool) → ProgressAt o old → IsSomeAnd o (λ file. Extends file old new more) → ProgressAt o new
progress_at None old new more p r = absurd r
progress_at (Some file) old new more p r = inr (r.front (front_at file old p))

pub progress-more : (contents : Option (List ℕ → Option (List ℕ))) (name old new : List ℕ) (more : Bool) → Progress contents name old → Reads contents name old new more → Progress contents name new
progress-more None name old new more p r = tt
progress-more (Some files) name old new more p r = progress_at (files name) old new more p r

end_at : (files : List ℕ → Option (List ℕ)) (name : List ℕ) (room : ℕ) (old new : List ℕ) (o : Option (List ℕ)) → files name ≡ o → ProgressAt o old → IsSomeAnd o (λ file. Extends file old new false) → HasStart (Some files) name room new
end_at files name room old new None e p r = absurd r
end_at files name room old new (Some file) e p r = record { file = file; is = e; start = inl (r.all (front_at file old p) refl) }

pub progress-end : (contents : Option (List ℕ → Option (List ℕ))) (name : List ℕ) (room : ℕ) (old new : List ℕ) (more : Bool) → more ≡ false → Progress contents name old → Reads contents name old new more → HasStart contents name room new
progress-end None name room old new more m p r = record { file = new; is = tt; start = inl refl }
progress-end (Some files) name room old new more m p r =
    end_at files name room old new (files name) refl p (subst (λ b. IsSomeAnd (files name) (λ file. Extends file old new b)) m r)

long_at : (files : List ℕ → Option (List ℕ)) (name : List ℕ) (room : ℕ) (text : List ℕ) (o : Option (List ℕ)) → files name ≡ o → room < length text → ProgressAt o text → HasStart (Some files) name room text
long_at files name room text o e long (inl none) = absurd (let zero' : length text ≡ 0 = ap length none in omega (arith, long, zero'))
long_at files name room text None e long (inr f) = absurd f
long_at files name room text (Some file) e long (inr f) = record { file = file; is = e; start = inr (f, long) }

pub progress-long : (contents : Option (List ℕ → Option (List ℕ))) (name : List ℕ) (room : ℕ) (text : List ℕ) → room < length text → Progress contents name text → HasStart contents name room text
progress-long None name room text long p = record { file = text; is = tt; start = inl refl }
progress-long (Some files) name room text long p = long_at files name room text (files name) refl long p
