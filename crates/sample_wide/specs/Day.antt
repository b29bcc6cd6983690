-- Words for what weather.Day means, made of day.proto by protoc-gen-buffa.
use Rattle.buffa_fields.specs.Terms.{FieldData}
use Rattle.std.specs.Prelude.{List, Option, ℕ, ℤ}

abbrev pub Meaning : Type 0 → Type 0
Meaning Place =
    (List ℕ × (ℕ × (ℤ × (ℤ × (ℤ × (ℤ × ℤ)))))) × (
    (ℤ × (ℤ × (ℤ × (ℤ × (ℤ × (ℤ × (ℤ × ℤ))))))) × (
    (ℤ × (ℤ × (ℤ × (ℤ × (ℤ × (ℤ × ℤ)))))) × (
    (ℤ × (ℤ × (ℤ × (ℤ × (ℕ × (ℕ × (ℕ × ℕ))))))) × (
    (ℕ × (ℕ × (ℕ × (ℕ × (ℕ × (ℕ × (ℕ × ℕ))))))) × (
    (ℕ × (ℕ × (ℕ × (ℕ × (ℕ × (ℕ × ℕ)))))) × (
    (ℕ × (ℕ × (ℕ × (ℕ × (ℕ × (ℕ × (ℕ × ℕ))))))) × (
    (ℕ × (ℕ × (ℕ × (ℕ × (ℕ × (ℕ × ℕ)))))) × (
    (ℕ × (ℕ × (ℕ × (ℕ × (ℕ × (ℕ × (ℕ × ℕ))))))) × (
    (ℕ × (ℕ × (ℕ × (ℕ × (ℕ × (ℕ × (Option Place × List (ℕ × List ℕ)))))))) × (
    List (ℕ × FieldData)))))))))))

-- string station = 1;
abbrev pub station : {Place : Type 0} → Meaning Place → List ℕ
station m = m.0.0

abbrev pub with_station : {Place : Type 0} → List ℕ → Meaning Place → Meaning Place
with_station x m = ((x, m.0.1), m.1)

-- uint32 number = 2;
abbrev pub number : {Place : Type 0} → Meaning Place → ℕ
number m = m.0.1.0

abbrev pub with_number : {Place : Type 0} → ℕ → Meaning Place → Meaning Place
with_number x m = ((m.0.0, (x, m.0.1.1)), m.1)

-- sint32 temperature_0 = 3;
abbrev pub temperature_0 : {Place : Type 0} → Meaning Place → ℤ
temperature_0 m = m.0.1.1.0

abbrev pub with_temperature_0 : {Place : Type 0} → ℤ → Meaning Place → Meaning Place
with_temperature_0 x m = ((m.0.0, (m.0.1.0, (x, m.0.1.1.1))), m.1)

-- sint32 temperature_1 = 4;
abbrev pub temperature_1 : {Place : Type 0} → Meaning Place → ℤ
temperature_1 m = m.0.1.1.1.0

abbrev pub with_temperature_1 : {Place : Type 0} → ℤ → Meaning Place → Meaning Place
with_temperature_1 x m = ((m.0.0, (m.0.1.0, (m.0.1.1.0, (x, m.0.1.1.1.1)))), m.1)

-- sint32 temperature_2 = 5;
abbrev pub temperature_2 : {Place : Type 0} → Meaning Place → ℤ
temperature_2 m = m.0.1.1.1.1.0

abbrev pub with_temperature_2 : {Place : Type 0} → ℤ → Meaning Place → Meaning Place
with_temperature_2 x m = ((m.0.0, (m.0.1.0, (m.0.1.1.0, (m.0.1.1.1.0, (x, m.0.1.1.1.1.1))))), m.1)

-- sint32 temperature_3 = 6;
abbrev pub temperature_3 : {Place : Type 0} → Meaning Place → ℤ
temperature_3 m = m.0.1.1.1.1.1.0

abbrev pub with_temperature_3 : {Place : Type 0} → ℤ → Meaning Place → Meaning Place
with_temperature_3 x m = ((m.0.0, (m.0.1.0, (m.0.1.1.0, (m.0.1.1.1.0, (m.0.1.1.1.1.0, (x, m.0.1.1.1.1.1.1)))))), m.1)

-- sint32 temperature_4 = 7;
abbrev pub temperature_4 : {Place : Type 0} → Meaning Place → ℤ
temperature_4 m = m.0.1.1.1.1.1.1

abbrev pub with_temperature_4 : {Place : Type 0} → ℤ → Meaning Place → Meaning Place
with_temperature_4 x m = ((m.0.0, (m.0.1.0, (m.0.1.1.0, (m.0.1.1.1.0, (m.0.1.1.1.1.0, (m.0.1.1.1.1.1.0, x)))))), m.1)

-- sint32 temperature_5 = 8;
abbrev pub temperature_5 : {Place : Type 0} → Meaning Place → ℤ
temperature_5 m = m.1.0.0

abbrev pub with_temperature_5 : {Place : Type 0} → ℤ → Meaning Place → Meaning Place
with_temperature_5 x m = (m.0, ((x, m.1.0.1), m.1.1))

-- sint32 temperature_6 = 9;
abbrev pub temperature_6 : {Place : Type 0} → Meaning Place → ℤ
temperature_6 m = m.1.0.1.0

abbrev pub with_temperature_6 : {Place : Type 0} → ℤ → Meaning Place → Meaning Place
with_temperature_6 x m = (m.0, ((m.1.0.0, (x, m.1.0.1.1)), m.1.1))

-- sint32 temperature_7 = 10;
abbrev pub temperature_7 : {Place : Type 0} → Meaning Place → ℤ
temperature_7 m = m.1.0.1.1.0

abbrev pub with_temperature_7 : {Place : Type 0} → ℤ → Meaning Place → Meaning Place
with_temperature_7 x m = (m.0, ((m.1.0.0, (m.1.0.1.0, (x, m.1.0.1.1.1))), m.1.1))

-- sint32 temperature_8 = 11;
abbrev pub temperature_8 : {Place : Type 0} → Meaning Place → ℤ
temperature_8 m = m.1.0.1.1.1.0

abbrev pub with_temperature_8 : {Place : Type 0} → ℤ → Meaning Place → Meaning Place
with_temperature_8 x m = (m.0, ((m.1.0.0, (m.1.0.1.0, (m.1.0.1.1.0, (x, m.1.0.1.1.1.1)))), m.1.1))

-- sint32 temperature_9 = 12;
abbrev pub temperature_9 : {Place : Type 0} → Meaning Place → ℤ
temperature_9 m = m.1.0.1.1.1.1.0

abbrev pub with_temperature_9 : {Place : Type 0} → ℤ → Meaning Place → Meaning Place
with_temperature_9 x m = (m.0, ((m.1.0.0, (m.1.0.1.0, (m.1.0.1.1.0, (m.1.0.1.1.1.0, (x, m.1.0.1.1.1.1.1))))), m.1.1))

-- sint32 temperature_10 = 13;
abbrev pub temperature_10 : {Place : Type 0} → Meaning Place → ℤ
temperature_10 m = m.1.0.1.1.1.1.1.0

abbrev pub with_temperature_10 : {Place : Type 0} → ℤ → Meaning Place → Meaning Place
with_temperature_10 x m = (m.0, ((m.1.0.0, (m.1.0.1.0, (m.1.0.1.1.0, (m.1.0.1.1.1.0, (m.1.0.1.1.1.1.0, (x, m.1.0.1.1.1.1.1.1)))))), m.1.1))

-- sint32 temperature_11 = 14;
abbrev pub temperature_11 : {Place : Type 0} → Meaning Place → ℤ
temperature_11 m = m.1.0.1.1.1.1.1.1.0

abbrev pub with_temperature_11 : {Place : Type 0} → ℤ → Meaning Place → Meaning Place
with_temperature_11 x m = (m.0, ((m.1.0.0, (m.1.0.1.0, (m.1.0.1.1.0, (m.1.0.1.1.1.0, (m.1.0.1.1.1.1.0, (m.1.0.1.1.1.1.1.0, (x, m.1.0.1.1.1.1.1.1.1))))))), m.1.1))

-- sint32 temperature_12 = 15;
abbrev pub temperature_12 : {Place : Type 0} → Meaning Place → ℤ
temperature_12 m = m.1.0.1.1.1.1.1.1.1

abbrev pub with_temperature_12 : {Place : Type 0} → ℤ → Meaning Place → Meaning Place
with_temperature_12 x m = (m.0, ((m.1.0.0, (m.1.0.1.0, (m.1.0.1.1.0, (m.1.0.1.1.1.0, (m.1.0.1.1.1.1.0, (m.1.0.1.1.1.1.1.0, (m.1.0.1.1.1.1.1.1.0, x))))))), m.1.1))

-- sint32 temperature_13 = 16;
abbrev pub temperature_13 : {Place : Type 0} → Meaning Place → ℤ
temperature_13 m = m.1.1.0.0

abbrev pub with_temperature_13 : {Place : Type 0} → ℤ → Meaning Place → Meaning Place
with_temperature_13 x m = (m.0, (m.1.0, ((x, m.1.1.0.1), m.1.1.1)))

-- sint32 temperature_14 = 17;
abbrev pub temperature_14 : {Place : Type 0} → Meaning Place → ℤ
temperature_14 m = m.1.1.0.1.0

abbrev pub with_temperature_14 : {Place : Type 0} → ℤ → Meaning Place → Meaning Place
with_temperature_14 x m = (m.0, (m.1.0, ((m.1.1.0.0, (x, m.1.1.0.1.1)), m.1.1.1)))

-- sint32 temperature_15 = 18;
abbrev pub temperature_15 : {Place : Type 0} → Meaning Place → ℤ
temperature_15 m = m.1.1.0.1.1.0

abbrev pub with_temperature_15 : {Place : Type 0} → ℤ → Meaning Place → Meaning Place
with_temperature_15 x m = (m.0, (m.1.0, ((m.1.1.0.0, (m.1.1.0.1.0, (x, m.1.1.0.1.1.1))), m.1.1.1)))

-- sint32 temperature_16 = 19;
abbrev pub temperature_16 : {Place : Type 0} → Meaning Place → ℤ
temperature_16 m = m.1.1.0.1.1.1.0

abbrev pub with_temperature_16 : {Place : Type 0} → ℤ → Meaning Place → Meaning Place
with_temperature_16 x m = (m.0, (m.1.0, ((m.1.1.0.0, (m.1.1.0.1.0, (m.1.1.0.1.1.0, (x, m.1.1.0.1.1.1.1)))), m.1.1.1)))

-- sint32 temperature_17 = 20;
abbrev pub temperature_17 : {Place : Type 0} → Meaning Place → ℤ
temperature_17 m = m.1.1.0.1.1.1.1.0

abbrev pub with_temperature_17 : {Place : Type 0} → ℤ → Meaning Place → Meaning Place
with_temperature_17 x m = (m.0, (m.1.0, ((m.1.1.0.0, (m.1.1.0.1.0, (m.1.1.0.1.1.0, (m.1.1.0.1.1.1.0, (x, m.1.1.0.1.1.1.1.1))))), m.1.1.1)))

-- sint32 temperature_18 = 21;
abbrev pub temperature_18 : {Place : Type 0} → Meaning Place → ℤ
temperature_18 m = m.1.1.0.1.1.1.1.1.0

abbrev pub with_temperature_18 : {Place : Type 0} → ℤ → Meaning Place → Meaning Place
with_temperature_18 x m = (m.0, (m.1.0, ((m.1.1.0.0, (m.1.1.0.1.0, (m.1.1.0.1.1.0, (m.1.1.0.1.1.1.0, (m.1.1.0.1.1.1.1.0, (x, m.1.1.0.1.1.1.1.1.1)))))), m.1.1.1)))

-- sint32 temperature_19 = 22;
abbrev pub temperature_19 : {Place : Type 0} → Meaning Place → ℤ
temperature_19 m = m.1.1.0.1.1.1.1.1.1

abbrev pub with_temperature_19 : {Place : Type 0} → ℤ → Meaning Place → Meaning Place
with_temperature_19 x m = (m.0, (m.1.0, ((m.1.1.0.0, (m.1.1.0.1.0, (m.1.1.0.1.1.0, (m.1.1.0.1.1.1.0, (m.1.1.0.1.1.1.1.0, (m.1.1.0.1.1.1.1.1.0, x)))))), m.1.1.1)))

-- sint32 temperature_20 = 23;
abbrev pub temperature_20 : {Place : Type 0} → Meaning Place → ℤ
temperature_20 m = m.1.1.1.0.0

abbrev pub with_temperature_20 : {Place : Type 0} → ℤ → Meaning Place → Meaning Place
with_temperature_20 x m = (m.0, (m.1.0, (m.1.1.0, ((x, m.1.1.1.0.1), m.1.1.1.1))))

-- sint32 temperature_21 = 24;
abbrev pub temperature_21 : {Place : Type 0} → Meaning Place → ℤ
temperature_21 m = m.1.1.1.0.1.0

abbrev pub with_temperature_21 : {Place : Type 0} → ℤ → Meaning Place → Meaning Place
with_temperature_21 x m = (m.0, (m.1.0, (m.1.1.0, ((m.1.1.1.0.0, (x, m.1.1.1.0.1.1)), m.1.1.1.1))))

-- sint32 temperature_22 = 25;
abbrev pub temperature_22 : {Place : Type 0} → Meaning Place → ℤ
temperature_22 m = m.1.1.1.0.1.1.0

abbrev pub with_temperature_22 : {Place : Type 0} → ℤ → Meaning Place → Meaning Place
with_temperature_22 x m = (m.0, (m.1.0, (m.1.1.0, ((m.1.1.1.0.0, (m.1.1.1.0.1.0, (x, m.1.1.1.0.1.1.1))), m.1.1.1.1))))

-- sint32 temperature_23 = 26;
abbrev pub temperature_23 : {Place : Type 0} → Meaning Place → ℤ
temperature_23 m = m.1.1.1.0.1.1.1.0

abbrev pub with_temperature_23 : {Place : Type 0} → ℤ → Meaning Place → Meaning Place
with_temperature_23 x m = (m.0, (m.1.0, (m.1.1.0, ((m.1.1.1.0.0, (m.1.1.1.0.1.0, (m.1.1.1.0.1.1.0, (x, m.1.1.1.0.1.1.1.1)))), m.1.1.1.1))))

-- uint32 rain_0 = 27;
abbrev pub rain_0 : {Place : Type 0} → Meaning Place → ℕ
rain_0 m = m.1.1.1.0.1.1.1.1.0

abbrev pub with_rain_0 : {Place : Type 0} → ℕ → Meaning Place → Meaning Place
with_rain_0 x m = (m.0, (m.1.0, (m.1.1.0, ((m.1.1.1.0.0, (m.1.1.1.0.1.0, (m.1.1.1.0.1.1.0, (m.1.1.1.0.1.1.1.0, (x, m.1.1.1.0.1.1.1.1.1))))), m.1.1.1.1))))

-- uint32 rain_1 = 28;
abbrev pub rain_1 : {Place : Type 0} → Meaning Place → ℕ
rain_1 m = m.1.1.1.0.1.1.1.1.1.0

abbrev pub with_rain_1 : {Place : Type 0} → ℕ → Meaning Place → Meaning Place
with_rain_1 x m = (m.0, (m.1.0, (m.1.1.0, ((m.1.1.1.0.0, (m.1.1.1.0.1.0, (m.1.1.1.0.1.1.0, (m.1.1.1.0.1.1.1.0, (m.1.1.1.0.1.1.1.1.0, (x, m.1.1.1.0.1.1.1.1.1.1)))))), m.1.1.1.1))))

-- uint32 rain_2 = 29;
abbrev pub rain_2 : {Place : Type 0} → Meaning Place → ℕ
rain_2 m = m.1.1.1.0.1.1.1.1.1.1.0

abbrev pub with_rain_2 : {Place : Type 0} → ℕ → Meaning Place → Meaning Place
with_rain_2 x m = (m.0, (m.1.0, (m.1.1.0, ((m.1.1.1.0.0, (m.1.1.1.0.1.0, (m.1.1.1.0.1.1.0, (m.1.1.1.0.1.1.1.0, (m.1.1.1.0.1.1.1.1.0, (m.1.1.1.0.1.1.1.1.1.0, (x, m.1.1.1.0.1.1.1.1.1.1.1))))))), m.1.1.1.1))))

-- uint32 rain_3 = 30;
abbrev pub rain_3 : {Place : Type 0} → Meaning Place → ℕ
rain_3 m = m.1.1.1.0.1.1.1.1.1.1.1

abbrev pub with_rain_3 : {Place : Type 0} → ℕ → Meaning Place → Meaning Place
with_rain_3 x m = (m.0, (m.1.0, (m.1.1.0, ((m.1.1.1.0.0, (m.1.1.1.0.1.0, (m.1.1.1.0.1.1.0, (m.1.1.1.0.1.1.1.0, (m.1.1.1.0.1.1.1.1.0, (m.1.1.1.0.1.1.1.1.1.0, (m.1.1.1.0.1.1.1.1.1.1.0, x))))))), m.1.1.1.1))))

-- uint32 rain_4 = 31;
abbrev pub rain_4 : {Place : Type 0} → Meaning Place → ℕ
rain_4 m = m.1.1.1.1.0.0

abbrev pub with_rain_4 : {Place : Type 0} → ℕ → Meaning Place → Meaning Place
with_rain_4 x m = (m.0, (m.1.0, (m.1.1.0, (m.1.1.1.0, ((x, m.1.1.1.1.0.1), m.1.1.1.1.1)))))

-- uint32 rain_5 = 32;
abbrev pub rain_5 : {Place : Type 0} → Meaning Place → ℕ
rain_5 m = m.1.1.1.1.0.1.0

abbrev pub with_rain_5 : {Place : Type 0} → ℕ → Meaning Place → Meaning Place
with_rain_5 x m = (m.0, (m.1.0, (m.1.1.0, (m.1.1.1.0, ((m.1.1.1.1.0.0, (x, m.1.1.1.1.0.1.1)), m.1.1.1.1.1)))))

-- uint32 rain_6 = 33;
abbrev pub rain_6 : {Place : Type 0} → Meaning Place → ℕ
rain_6 m = m.1.1.1.1.0.1.1.0

abbrev pub with_rain_6 : {Place : Type 0} → ℕ → Meaning Place → Meaning Place
with_rain_6 x m = (m.0, (m.1.0, (m.1.1.0, (m.1.1.1.0, ((m.1.1.1.1.0.0, (m.1.1.1.1.0.1.0, (x, m.1.1.1.1.0.1.1.1))), m.1.1.1.1.1)))))

-- uint32 rain_7 = 34;
abbrev pub rain_7 : {Place : Type 0} → Meaning Place → ℕ
rain_7 m = m.1.1.1.1.0.1.1.1.0

abbrev pub with_rain_7 : {Place : Type 0} → ℕ → Meaning Place → Meaning Place
with_rain_7 x m = (m.0, (m.1.0, (m.1.1.0, (m.1.1.1.0, ((m.1.1.1.1.0.0, (m.1.1.1.1.0.1.0, (m.1.1.1.1.0.1.1.0, (x, m.1.1.1.1.0.1.1.1.1)))), m.1.1.1.1.1)))))

-- uint32 rain_8 = 35;
abbrev pub rain_8 : {Place : Type 0} → Meaning Place → ℕ
rain_8 m = m.1.1.1.1.0.1.1.1.1.0

abbrev pub with_rain_8 : {Place : Type 0} → ℕ → Meaning Place → Meaning Place
with_rain_8 x m = (m.0, (m.1.0, (m.1.1.0, (m.1.1.1.0, ((m.1.1.1.1.0.0, (m.1.1.1.1.0.1.0, (m.1.1.1.1.0.1.1.0, (m.1.1.1.1.0.1.1.1.0, (x, m.1.1.1.1.0.1.1.1.1.1))))), m.1.1.1.1.1)))))

-- uint32 rain_9 = 36;
abbrev pub rain_9 : {Place : Type 0} → Meaning Place → ℕ
rain_9 m = m.1.1.1.1.0.1.1.1.1.1.0

abbrev pub with_rain_9 : {Place : Type 0} → ℕ → Meaning Place → Meaning Place
with_rain_9 x m = (m.0, (m.1.0, (m.1.1.0, (m.1.1.1.0, ((m.1.1.1.1.0.0, (m.1.1.1.1.0.1.0, (m.1.1.1.1.0.1.1.0, (m.1.1.1.1.0.1.1.1.0, (m.1.1.1.1.0.1.1.1.1.0, (x, m.1.1.1.1.0.1.1.1.1.1.1)))))), m.1.1.1.1.1)))))

-- uint32 rain_10 = 37;
abbrev pub rain_10 : {Place : Type 0} → Meaning Place → ℕ
rain_10 m = m.1.1.1.1.0.1.1.1.1.1.1.0

abbrev pub with_rain_10 : {Place : Type 0} → ℕ → Meaning Place → Meaning Place
with_rain_10 x m = (m.0, (m.1.0, (m.1.1.0, (m.1.1.1.0, ((m.1.1.1.1.0.0, (m.1.1.1.1.0.1.0, (m.1.1.1.1.0.1.1.0, (m.1.1.1.1.0.1.1.1.0, (m.1.1.1.1.0.1.1.1.1.0, (m.1.1.1.1.0.1.1.1.1.1.0, (x, m.1.1.1.1.0.1.1.1.1.1.1.1))))))), m.1.1.1.1.1)))))

-- uint32 rain_11 = 38;
abbrev pub rain_11 : {Place : Type 0} → Meaning Place → ℕ
rain_11 m = m.1.1.1.1.0.1.1.1.1.1.1.1

abbrev pub with_rain_11 : {Place : Type 0} → ℕ → Meaning Place → Meaning Place
with_rain_11 x m = (m.0, (m.1.0, (m.1.1.0, (m.1.1.1.0, ((m.1.1.1.1.0.0, (m.1.1.1.1.0.1.0, (m.1.1.1.1.0.1.1.0, (m.1.1.1.1.0.1.1.1.0, (m.1.1.1.1.0.1.1.1.1.0, (m.1.1.1.1.0.1.1.1.1.1.0, (m.1.1.1.1.0.1.1.1.1.1.1.0, x))))))), m.1.1.1.1.1)))))

-- uint32 rain_12 = 39;
abbrev pub rain_12 : {Place : Type 0} → Meaning Place → ℕ
rain_12 m = m.1.1.1.1.1.0.0

abbrev pub with_rain_12 : {Place : Type 0} → ℕ → Meaning Place → Meaning Place
with_rain_12 x m = (m.0, (m.1.0, (m.1.1.0, (m.1.1.1.0, (m.1.1.1.1.0, ((x, m.1.1.1.1.1.0.1), m.1.1.1.1.1.1))))))

-- uint32 rain_13 = 40;
abbrev pub rain_13 : {Place : Type 0} → Meaning Place → ℕ
rain_13 m = m.1.1.1.1.1.0.1.0

abbrev pub with_rain_13 : {Place : Type 0} → ℕ → Meaning Place → Meaning Place
with_rain_13 x m = (m.0, (m.1.0, (m.1.1.0, (m.1.1.1.0, (m.1.1.1.1.0, ((m.1.1.1.1.1.0.0, (x, m.1.1.1.1.1.0.1.1)), m.1.1.1.1.1.1))))))

-- uint32 rain_14 = 41;
abbrev pub rain_14 : {Place : Type 0} → Meaning Place → ℕ
rain_14 m = m.1.1.1.1.1.0.1.1.0

abbrev pub with_rain_14 : {Place : Type 0} → ℕ → Meaning Place → Meaning Place
with_rain_14 x m = (m.0, (m.1.0, (m.1.1.0, (m.1.1.1.0, (m.1.1.1.1.0, ((m.1.1.1.1.1.0.0, (m.1.1.1.1.1.0.1.0, (x, m.1.1.1.1.1.0.1.1.1))), m.1.1.1.1.1.1))))))

-- uint32 rain_15 = 42;
abbrev pub rain_15 : {Place : Type 0} → Meaning Place → ℕ
rain_15 m = m.1.1.1.1.1.0.1.1.1.0

abbrev pub with_rain_15 : {Place : Type 0} → ℕ → Meaning Place → Meaning Place
with_rain_15 x m = (m.0, (m.1.0, (m.1.1.0, (m.1.1.1.0, (m.1.1.1.1.0, ((m.1.1.1.1.1.0.0, (m.1.1.1.1.1.0.1.0, (m.1.1.1.1.1.0.1.1.0, (x, m.1.1.1.1.1.0.1.1.1.1)))), m.1.1.1.1.1.1))))))

-- uint32 rain_16 = 43;
abbrev pub rain_16 : {Place : Type 0} → Meaning Place → ℕ
rain_16 m = m.1.1.1.1.1.0.1.1.1.1.0

abbrev pub with_rain_16 : {Place : Type 0} → ℕ → Meaning Place → Meaning Place
with_rain_16 x m = (m.0, (m.1.0, (m.1.1.0, (m.1.1.1.0, (m.1.1.1.1.0, ((m.1.1.1.1.1.0.0, (m.1.1.1.1.1.0.1.0, (m.1.1.1.1.1.0.1.1.0, (m.1.1.1.1.1.0.1.1.1.0, (x, m.1.1.1.1.1.0.1.1.1.1.1))))), m.1.1.1.1.1.1))))))

-- uint32 rain_17 = 44;
abbrev pub rain_17 : {Place : Type 0} → Meaning Place → ℕ
rain_17 m = m.1.1.1.1.1.0.1.1.1.1.1.0

abbrev pub with_rain_17 : {Place : Type 0} → ℕ → Meaning Place → Meaning Place
with_rain_17 x m = (m.0, (m.1.0, (m.1.1.0, (m.1.1.1.0, (m.1.1.1.1.0, ((m.1.1.1.1.1.0.0, (m.1.1.1.1.1.0.1.0, (m.1.1.1.1.1.0.1.1.0, (m.1.1.1.1.1.0.1.1.1.0, (m.1.1.1.1.1.0.1.1.1.1.0, (x, m.1.1.1.1.1.0.1.1.1.1.1.1)))))), m.1.1.1.1.1.1))))))

-- uint32 rain_18 = 45;
abbrev pub rain_18 : {Place : Type 0} → Meaning Place → ℕ
rain_18 m = m.1.1.1.1.1.0.1.1.1.1.1.1

abbrev pub with_rain_18 : {Place : Type 0} → ℕ → Meaning Place → Meaning Place
with_rain_18 x m = (m.0, (m.1.0, (m.1.1.0, (m.1.1.1.0, (m.1.1.1.1.0, ((m.1.1.1.1.1.0.0, (m.1.1.1.1.1.0.1.0, (m.1.1.1.1.1.0.1.1.0, (m.1.1.1.1.1.0.1.1.1.0, (m.1.1.1.1.1.0.1.1.1.1.0, (m.1.1.1.1.1.0.1.1.1.1.1.0, x)))))), m.1.1.1.1.1.1))))))

-- uint32 rain_19 = 46;
abbrev pub rain_19 : {Place : Type 0} → Meaning Place → ℕ
rain_19 m = m.1.1.1.1.1.1.0.0

abbrev pub with_rain_19 : {Place : Type 0} → ℕ → Meaning Place → Meaning Place
with_rain_19 x m = (m.0, (m.1.0, (m.1.1.0, (m.1.1.1.0, (m.1.1.1.1.0, (m.1.1.1.1.1.0, ((x, m.1.1.1.1.1.1.0.1), m.1.1.1.1.1.1.1)))))))

-- uint32 rain_20 = 47;
abbrev pub rain_20 : {Place : Type 0} → Meaning Place → ℕ
rain_20 m = m.1.1.1.1.1.1.0.1.0

abbrev pub with_rain_20 : {Place : Type 0} → ℕ → Meaning Place → Meaning Place
with_rain_20 x m = (m.0, (m.1.0, (m.1.1.0, (m.1.1.1.0, (m.1.1.1.1.0, (m.1.1.1.1.1.0, ((m.1.1.1.1.1.1.0.0, (x, m.1.1.1.1.1.1.0.1.1)), m.1.1.1.1.1.1.1)))))))

-- uint32 rain_21 = 48;
abbrev pub rain_21 : {Place : Type 0} → Meaning Place → ℕ
rain_21 m = m.1.1.1.1.1.1.0.1.1.0

abbrev pub with_rain_21 : {Place : Type 0} → ℕ → Meaning Place → Meaning Place
with_rain_21 x m = (m.0, (m.1.0, (m.1.1.0, (m.1.1.1.0, (m.1.1.1.1.0, (m.1.1.1.1.1.0, ((m.1.1.1.1.1.1.0.0, (m.1.1.1.1.1.1.0.1.0, (x, m.1.1.1.1.1.1.0.1.1.1))), m.1.1.1.1.1.1.1)))))))

-- uint32 rain_22 = 49;
abbrev pub rain_22 : {Place : Type 0} → Meaning Place → ℕ
rain_22 m = m.1.1.1.1.1.1.0.1.1.1.0

abbrev pub with_rain_22 : {Place : Type 0} → ℕ → Meaning Place → Meaning Place
with_rain_22 x m = (m.0, (m.1.0, (m.1.1.0, (m.1.1.1.0, (m.1.1.1.1.0, (m.1.1.1.1.1.0, ((m.1.1.1.1.1.1.0.0, (m.1.1.1.1.1.1.0.1.0, (m.1.1.1.1.1.1.0.1.1.0, (x, m.1.1.1.1.1.1.0.1.1.1.1)))), m.1.1.1.1.1.1.1)))))))

-- uint32 rain_23 = 50;
abbrev pub rain_23 : {Place : Type 0} → Meaning Place → ℕ
rain_23 m = m.1.1.1.1.1.1.0.1.1.1.1.0

abbrev pub with_rain_23 : {Place : Type 0} → ℕ → Meaning Place → Meaning Place
with_rain_23 x m = (m.0, (m.1.0, (m.1.1.0, (m.1.1.1.0, (m.1.1.1.1.0, (m.1.1.1.1.1.0, ((m.1.1.1.1.1.1.0.0, (m.1.1.1.1.1.1.0.1.0, (m.1.1.1.1.1.1.0.1.1.0, (m.1.1.1.1.1.1.0.1.1.1.0, (x, m.1.1.1.1.1.1.0.1.1.1.1.1))))), m.1.1.1.1.1.1.1)))))))

-- uint32 wind_0 = 51;
abbrev pub wind_0 : {Place : Type 0} → Meaning Place → ℕ
wind_0 m = m.1.1.1.1.1.1.0.1.1.1.1.1.0

abbrev pub with_wind_0 : {Place : Type 0} → ℕ → Meaning Place → Meaning Place
with_wind_0 x m = (m.0, (m.1.0, (m.1.1.0, (m.1.1.1.0, (m.1.1.1.1.0, (m.1.1.1.1.1.0, ((m.1.1.1.1.1.1.0.0, (m.1.1.1.1.1.1.0.1.0, (m.1.1.1.1.1.1.0.1.1.0, (m.1.1.1.1.1.1.0.1.1.1.0, (m.1.1.1.1.1.1.0.1.1.1.1.0, (x, m.1.1.1.1.1.1.0.1.1.1.1.1.1)))))), m.1.1.1.1.1.1.1)))))))

-- uint32 wind_1 = 52;
abbrev pub wind_1 : {Place : Type 0} → Meaning Place → ℕ
wind_1 m = m.1.1.1.1.1.1.0.1.1.1.1.1.1.0

abbrev pub with_wind_1 : {Place : Type 0} → ℕ → Meaning Place → Meaning Place
with_wind_1 x m = (m.0, (m.1.0, (m.1.1.0, (m.1.1.1.0, (m.1.1.1.1.0, (m.1.1.1.1.1.0, ((m.1.1.1.1.1.1.0.0, (m.1.1.1.1.1.1.0.1.0, (m.1.1.1.1.1.1.0.1.1.0, (m.1.1.1.1.1.1.0.1.1.1.0, (m.1.1.1.1.1.1.0.1.1.1.1.0, (m.1.1.1.1.1.1.0.1.1.1.1.1.0, (x, m.1.1.1.1.1.1.0.1.1.1.1.1.1.1))))))), m.1.1.1.1.1.1.1)))))))

-- uint32 wind_2 = 53;
abbrev pub wind_2 : {Place : Type 0} → Meaning Place → ℕ
wind_2 m = m.1.1.1.1.1.1.0.1.1.1.1.1.1.1

abbrev pub with_wind_2 : {Place : Type 0} → ℕ → Meaning Place → Meaning Place
with_wind_2 x m = (m.0, (m.1.0, (m.1.1.0, (m.1.1.1.0, (m.1.1.1.1.0, (m.1.1.1.1.1.0, ((m.1.1.1.1.1.1.0.0, (m.1.1.1.1.1.1.0.1.0, (m.1.1.1.1.1.1.0.1.1.0, (m.1.1.1.1.1.1.0.1.1.1.0, (m.1.1.1.1.1.1.0.1.1.1.1.0, (m.1.1.1.1.1.1.0.1.1.1.1.1.0, (m.1.1.1.1.1.1.0.1.1.1.1.1.1.0, x))))))), m.1.1.1.1.1.1.1)))))))

-- uint32 wind_3 = 54;
abbrev pub wind_3 : {Place : Type 0} → Meaning Place → ℕ
wind_3 m = m.1.1.1.1.1.1.1.0.0

abbrev pub with_wind_3 : {Place : Type 0} → ℕ → Meaning Place → Meaning Place
with_wind_3 x m = (m.0, (m.1.0, (m.1.1.0, (m.1.1.1.0, (m.1.1.1.1.0, (m.1.1.1.1.1.0, (m.1.1.1.1.1.1.0, ((x, m.1.1.1.1.1.1.1.0.1), m.1.1.1.1.1.1.1.1))))))))

-- uint32 wind_4 = 55;
abbrev pub wind_4 : {Place : Type 0} → Meaning Place → ℕ
wind_4 m = m.1.1.1.1.1.1.1.0.1.0

abbrev pub with_wind_4 : {Place : Type 0} → ℕ → Meaning Place → Meaning Place
with_wind_4 x m = (m.0, (m.1.0, (m.1.1.0, (m.1.1.1.0, (m.1.1.1.1.0, (m.1.1.1.1.1.0, (m.1.1.1.1.1.1.0, ((m.1.1.1.1.1.1.1.0.0, (x, m.1.1.1.1.1.1.1.0.1.1)), m.1.1.1.1.1.1.1.1))))))))

-- uint32 wind_5 = 56;
abbrev pub wind_5 : {Place : Type 0} → Meaning Place → ℕ
wind_5 m = m.1.1.1.1.1.1.1.0.1.1.0

abbrev pub with_wind_5 : {Place : Type 0} → ℕ → Meaning Place → Meaning Place
with_wind_5 x m = (m.0, (m.1.0, (m.1.1.0, (m.1.1.1.0, (m.1.1.1.1.0, (m.1.1.1.1.1.0, (m.1.1.1.1.1.1.0, ((m.1.1.1.1.1.1.1.0.0, (m.1.1.1.1.1.1.1.0.1.0, (x, m.1.1.1.1.1.1.1.0.1.1.1))), m.1.1.1.1.1.1.1.1))))))))

-- uint32 wind_6 = 57;
abbrev pub wind_6 : {Place : Type 0} → Meaning Place → ℕ
wind_6 m = m.1.1.1.1.1.1.1.0.1.1.1.0

abbrev pub with_wind_6 : {Place : Type 0} → ℕ → Meaning Place → Meaning Place
with_wind_6 x m = (m.0, (m.1.0, (m.1.1.0, (m.1.1.1.0, (m.1.1.1.1.0, (m.1.1.1.1.1.0, (m.1.1.1.1.1.1.0, ((m.1.1.1.1.1.1.1.0.0, (m.1.1.1.1.1.1.1.0.1.0, (m.1.1.1.1.1.1.1.0.1.1.0, (x, m.1.1.1.1.1.1.1.0.1.1.1.1)))), m.1.1.1.1.1.1.1.1))))))))

-- uint32 wind_7 = 58;
abbrev pub wind_7 : {Place : Type 0} → Meaning Place → ℕ
wind_7 m = m.1.1.1.1.1.1.1.0.1.1.1.1.0

abbrev pub with_wind_7 : {Place : Type 0} → ℕ → Meaning Place → Meaning Place
with_wind_7 x m = (m.0, (m.1.0, (m.1.1.0, (m.1.1.1.0, (m.1.1.1.1.0, (m.1.1.1.1.1.0, (m.1.1.1.1.1.1.0, ((m.1.1.1.1.1.1.1.0.0, (m.1.1.1.1.1.1.1.0.1.0, (m.1.1.1.1.1.1.1.0.1.1.0, (m.1.1.1.1.1.1.1.0.1.1.1.0, (x, m.1.1.1.1.1.1.1.0.1.1.1.1.1))))), m.1.1.1.1.1.1.1.1))))))))

-- uint32 wind_8 = 59;
abbrev pub wind_8 : {Place : Type 0} → Meaning Place → ℕ
wind_8 m = m.1.1.1.1.1.1.1.0.1.1.1.1.1.0

abbrev pub with_wind_8 : {Place : Type 0} → ℕ → Meaning Place → Meaning Place
with_wind_8 x m = (m.0, (m.1.0, (m.1.1.0, (m.1.1.1.0, (m.1.1.1.1.0, (m.1.1.1.1.1.0, (m.1.1.1.1.1.1.0, ((m.1.1.1.1.1.1.1.0.0, (m.1.1.1.1.1.1.1.0.1.0, (m.1.1.1.1.1.1.1.0.1.1.0, (m.1.1.1.1.1.1.1.0.1.1.1.0, (m.1.1.1.1.1.1.1.0.1.1.1.1.0, (x, m.1.1.1.1.1.1.1.0.1.1.1.1.1.1)))))), m.1.1.1.1.1.1.1.1))))))))

-- uint32 wind_9 = 60;
abbrev pub wind_9 : {Place : Type 0} → Meaning Place → ℕ
wind_9 m = m.1.1.1.1.1.1.1.0.1.1.1.1.1.1

abbrev pub with_wind_9 : {Place : Type 0} → ℕ → Meaning Place → Meaning Place
with_wind_9 x m = (m.0, (m.1.0, (m.1.1.0, (m.1.1.1.0, (m.1.1.1.1.0, (m.1.1.1.1.1.0, (m.1.1.1.1.1.1.0, ((m.1.1.1.1.1.1.1.0.0, (m.1.1.1.1.1.1.1.0.1.0, (m.1.1.1.1.1.1.1.0.1.1.0, (m.1.1.1.1.1.1.1.0.1.1.1.0, (m.1.1.1.1.1.1.1.0.1.1.1.1.0, (m.1.1.1.1.1.1.1.0.1.1.1.1.1.0, x)))))), m.1.1.1.1.1.1.1.1))))))))

-- uint32 wind_10 = 61;
abbrev pub wind_10 : {Place : Type 0} → Meaning Place → ℕ
wind_10 m = m.1.1.1.1.1.1.1.1.0.0

abbrev pub with_wind_10 : {Place : Type 0} → ℕ → Meaning Place → Meaning Place
with_wind_10 x m = (m.0, (m.1.0, (m.1.1.0, (m.1.1.1.0, (m.1.1.1.1.0, (m.1.1.1.1.1.0, (m.1.1.1.1.1.1.0, (m.1.1.1.1.1.1.1.0, ((x, m.1.1.1.1.1.1.1.1.0.1), m.1.1.1.1.1.1.1.1.1)))))))))

-- uint32 wind_11 = 62;
abbrev pub wind_11 : {Place : Type 0} → Meaning Place → ℕ
wind_11 m = m.1.1.1.1.1.1.1.1.0.1.0

abbrev pub with_wind_11 : {Place : Type 0} → ℕ → Meaning Place → Meaning Place
with_wind_11 x m = (m.0, (m.1.0, (m.1.1.0, (m.1.1.1.0, (m.1.1.1.1.0, (m.1.1.1.1.1.0, (m.1.1.1.1.1.1.0, (m.1.1.1.1.1.1.1.0, ((m.1.1.1.1.1.1.1.1.0.0, (x, m.1.1.1.1.1.1.1.1.0.1.1)), m.1.1.1.1.1.1.1.1.1)))))))))

-- uint32 wind_12 = 63;
abbrev pub wind_12 : {Place : Type 0} → Meaning Place → ℕ
wind_12 m = m.1.1.1.1.1.1.1.1.0.1.1.0

abbrev pub with_wind_12 : {Place : Type 0} → ℕ → Meaning Place → Meaning Place
with_wind_12 x m = (m.0, (m.1.0, (m.1.1.0, (m.1.1.1.0, (m.1.1.1.1.0, (m.1.1.1.1.1.0, (m.1.1.1.1.1.1.0, (m.1.1.1.1.1.1.1.0, ((m.1.1.1.1.1.1.1.1.0.0, (m.1.1.1.1.1.1.1.1.0.1.0, (x, m.1.1.1.1.1.1.1.1.0.1.1.1))), m.1.1.1.1.1.1.1.1.1)))))))))

-- uint32 wind_13 = 64;
abbrev pub wind_13 : {Place : Type 0} → Meaning Place → ℕ
wind_13 m = m.1.1.1.1.1.1.1.1.0.1.1.1.0

abbrev pub with_wind_13 : {Place : Type 0} → ℕ → Meaning Place → Meaning Place
with_wind_13 x m = (m.0, (m.1.0, (m.1.1.0, (m.1.1.1.0, (m.1.1.1.1.0, (m.1.1.1.1.1.0, (m.1.1.1.1.1.1.0, (m.1.1.1.1.1.1.1.0, ((m.1.1.1.1.1.1.1.1.0.0, (m.1.1.1.1.1.1.1.1.0.1.0, (m.1.1.1.1.1.1.1.1.0.1.1.0, (x, m.1.1.1.1.1.1.1.1.0.1.1.1.1)))), m.1.1.1.1.1.1.1.1.1)))))))))

-- uint32 wind_14 = 65;
abbrev pub wind_14 : {Place : Type 0} → Meaning Place → ℕ
wind_14 m = m.1.1.1.1.1.1.1.1.0.1.1.1.1.0

abbrev pub with_wind_14 : {Place : Type 0} → ℕ → Meaning Place → Meaning Place
with_wind_14 x m = (m.0, (m.1.0, (m.1.1.0, (m.1.1.1.0, (m.1.1.1.1.0, (m.1.1.1.1.1.0, (m.1.1.1.1.1.1.0, (m.1.1.1.1.1.1.1.0, ((m.1.1.1.1.1.1.1.1.0.0, (m.1.1.1.1.1.1.1.1.0.1.0, (m.1.1.1.1.1.1.1.1.0.1.1.0, (m.1.1.1.1.1.1.1.1.0.1.1.1.0, (x, m.1.1.1.1.1.1.1.1.0.1.1.1.1.1))))), m.1.1.1.1.1.1.1.1.1)))))))))

-- uint32 wind_15 = 66;
abbrev pub wind_15 : {Place : Type 0} → Meaning Place → ℕ
wind_15 m = m.1.1.1.1.1.1.1.1.0.1.1.1.1.1.0

abbrev pub with_wind_15 : {Place : Type 0} → ℕ → Meaning Place → Meaning Place
with_wind_15 x m = (m.0, (m.1.0, (m.1.1.0, (m.1.1.1.0, (m.1.1.1.1.0, (m.1.1.1.1.1.0, (m.1.1.1.1.1.1.0, (m.1.1.1.1.1.1.1.0, ((m.1.1.1.1.1.1.1.1.0.0, (m.1.1.1.1.1.1.1.1.0.1.0, (m.1.1.1.1.1.1.1.1.0.1.1.0, (m.1.1.1.1.1.1.1.1.0.1.1.1.0, (m.1.1.1.1.1.1.1.1.0.1.1.1.1.0, (x, m.1.1.1.1.1.1.1.1.0.1.1.1.1.1.1)))))), m.1.1.1.1.1.1.1.1.1)))))))))

-- uint32 wind_16 = 67;
abbrev pub wind_16 : {Place : Type 0} → Meaning Place → ℕ
wind_16 m = m.1.1.1.1.1.1.1.1.0.1.1.1.1.1.1.0

abbrev pub with_wind_16 : {Place : Type 0} → ℕ → Meaning Place → Meaning Place
with_wind_16 x m = (m.0, (m.1.0, (m.1.1.0, (m.1.1.1.0, (m.1.1.1.1.0, (m.1.1.1.1.1.0, (m.1.1.1.1.1.1.0, (m.1.1.1.1.1.1.1.0, ((m.1.1.1.1.1.1.1.1.0.0, (m.1.1.1.1.1.1.1.1.0.1.0, (m.1.1.1.1.1.1.1.1.0.1.1.0, (m.1.1.1.1.1.1.1.1.0.1.1.1.0, (m.1.1.1.1.1.1.1.1.0.1.1.1.1.0, (m.1.1.1.1.1.1.1.1.0.1.1.1.1.1.0, (x, m.1.1.1.1.1.1.1.1.0.1.1.1.1.1.1.1))))))), m.1.1.1.1.1.1.1.1.1)))))))))

-- uint32 wind_17 = 68;
abbrev pub wind_17 : {Place : Type 0} → Meaning Place → ℕ
wind_17 m = m.1.1.1.1.1.1.1.1.0.1.1.1.1.1.1.1

abbrev pub with_wind_17 : {Place : Type 0} → ℕ → Meaning Place → Meaning Place
with_wind_17 x m = (m.0, (m.1.0, (m.1.1.0, (m.1.1.1.0, (m.1.1.1.1.0, (m.1.1.1.1.1.0, (m.1.1.1.1.1.1.0, (m.1.1.1.1.1.1.1.0, ((m.1.1.1.1.1.1.1.1.0.0, (m.1.1.1.1.1.1.1.1.0.1.0, (m.1.1.1.1.1.1.1.1.0.1.1.0, (m.1.1.1.1.1.1.1.1.0.1.1.1.0, (m.1.1.1.1.1.1.1.1.0.1.1.1.1.0, (m.1.1.1.1.1.1.1.1.0.1.1.1.1.1.0, (m.1.1.1.1.1.1.1.1.0.1.1.1.1.1.1.0, x))))))), m.1.1.1.1.1.1.1.1.1)))))))))

-- uint32 wind_18 = 69;
abbrev pub wind_18 : {Place : Type 0} → Meaning Place → ℕ
wind_18 m = m.1.1.1.1.1.1.1.1.1.0.0

abbrev pub with_wind_18 : {Place : Type 0} → ℕ → Meaning Place → Meaning Place
with_wind_18 x m = (m.0, (m.1.0, (m.1.1.0, (m.1.1.1.0, (m.1.1.1.1.0, (m.1.1.1.1.1.0, (m.1.1.1.1.1.1.0, (m.1.1.1.1.1.1.1.0, (m.1.1.1.1.1.1.1.1.0, ((x, m.1.1.1.1.1.1.1.1.1.0.1), m.1.1.1.1.1.1.1.1.1.1))))))))))

-- uint32 wind_19 = 70;
abbrev pub wind_19 : {Place : Type 0} → Meaning Place → ℕ
wind_19 m = m.1.1.1.1.1.1.1.1.1.0.1.0

abbrev pub with_wind_19 : {Place : Type 0} → ℕ → Meaning Place → Meaning Place
with_wind_19 x m = (m.0, (m.1.0, (m.1.1.0, (m.1.1.1.0, (m.1.1.1.1.0, (m.1.1.1.1.1.0, (m.1.1.1.1.1.1.0, (m.1.1.1.1.1.1.1.0, (m.1.1.1.1.1.1.1.1.0, ((m.1.1.1.1.1.1.1.1.1.0.0, (x, m.1.1.1.1.1.1.1.1.1.0.1.1)), m.1.1.1.1.1.1.1.1.1.1))))))))))

-- uint32 wind_20 = 71;
abbrev pub wind_20 : {Place : Type 0} → Meaning Place → ℕ
wind_20 m = m.1.1.1.1.1.1.1.1.1.0.1.1.0

abbrev pub with_wind_20 : {Place : Type 0} → ℕ → Meaning Place → Meaning Place
with_wind_20 x m = (m.0, (m.1.0, (m.1.1.0, (m.1.1.1.0, (m.1.1.1.1.0, (m.1.1.1.1.1.0, (m.1.1.1.1.1.1.0, (m.1.1.1.1.1.1.1.0, (m.1.1.1.1.1.1.1.1.0, ((m.1.1.1.1.1.1.1.1.1.0.0, (m.1.1.1.1.1.1.1.1.1.0.1.0, (x, m.1.1.1.1.1.1.1.1.1.0.1.1.1))), m.1.1.1.1.1.1.1.1.1.1))))))))))

-- uint32 wind_21 = 72;
abbrev pub wind_21 : {Place : Type 0} → Meaning Place → ℕ
wind_21 m = m.1.1.1.1.1.1.1.1.1.0.1.1.1.0

abbrev pub with_wind_21 : {Place : Type 0} → ℕ → Meaning Place → Meaning Place
with_wind_21 x m = (m.0, (m.1.0, (m.1.1.0, (m.1.1.1.0, (m.1.1.1.1.0, (m.1.1.1.1.1.0, (m.1.1.1.1.1.1.0, (m.1.1.1.1.1.1.1.0, (m.1.1.1.1.1.1.1.1.0, ((m.1.1.1.1.1.1.1.1.1.0.0, (m.1.1.1.1.1.1.1.1.1.0.1.0, (m.1.1.1.1.1.1.1.1.1.0.1.1.0, (x, m.1.1.1.1.1.1.1.1.1.0.1.1.1.1)))), m.1.1.1.1.1.1.1.1.1.1))))))))))

-- uint32 wind_22 = 73;
abbrev pub wind_22 : {Place : Type 0} → Meaning Place → ℕ
wind_22 m = m.1.1.1.1.1.1.1.1.1.0.1.1.1.1.0

abbrev pub with_wind_22 : {Place : Type 0} → ℕ → Meaning Place → Meaning Place
with_wind_22 x m = (m.0, (m.1.0, (m.1.1.0, (m.1.1.1.0, (m.1.1.1.1.0, (m.1.1.1.1.1.0, (m.1.1.1.1.1.1.0, (m.1.1.1.1.1.1.1.0, (m.1.1.1.1.1.1.1.1.0, ((m.1.1.1.1.1.1.1.1.1.0.0, (m.1.1.1.1.1.1.1.1.1.0.1.0, (m.1.1.1.1.1.1.1.1.1.0.1.1.0, (m.1.1.1.1.1.1.1.1.1.0.1.1.1.0, (x, m.1.1.1.1.1.1.1.1.1.0.1.1.1.1.1))))), m.1.1.1.1.1.1.1.1.1.1))))))))))

-- uint32 wind_23 = 74;
abbrev pub wind_23 : {Place : Type 0} → Meaning Place → ℕ
wind_23 m = m.1.1.1.1.1.1.1.1.1.0.1.1.1.1.1.0

abbrev pub with_wind_23 : {Place : Type 0} → ℕ → Meaning Place → Meaning Place
with_wind_23 x m = (m.0, (m.1.0, (m.1.1.0, (m.1.1.1.0, (m.1.1.1.1.0, (m.1.1.1.1.1.0, (m.1.1.1.1.1.1.0, (m.1.1.1.1.1.1.1.0, (m.1.1.1.1.1.1.1.1.0, ((m.1.1.1.1.1.1.1.1.1.0.0, (m.1.1.1.1.1.1.1.1.1.0.1.0, (m.1.1.1.1.1.1.1.1.1.0.1.1.0, (m.1.1.1.1.1.1.1.1.1.0.1.1.1.0, (m.1.1.1.1.1.1.1.1.1.0.1.1.1.1.0, (x, m.1.1.1.1.1.1.1.1.1.0.1.1.1.1.1.1)))))), m.1.1.1.1.1.1.1.1.1.1))))))))))

-- Place place = 75;
abbrev pub place : {Place : Type 0} → Meaning Place → Option Place
place m = m.1.1.1.1.1.1.1.1.1.0.1.1.1.1.1.1.0

abbrev pub with_place : {Place : Type 0} → Option Place → Meaning Place → Meaning Place
with_place x m = (m.0, (m.1.0, (m.1.1.0, (m.1.1.1.0, (m.1.1.1.1.0, (m.1.1.1.1.1.0, (m.1.1.1.1.1.1.0, (m.1.1.1.1.1.1.1.0, (m.1.1.1.1.1.1.1.1.0, ((m.1.1.1.1.1.1.1.1.1.0.0, (m.1.1.1.1.1.1.1.1.1.0.1.0, (m.1.1.1.1.1.1.1.1.1.0.1.1.0, (m.1.1.1.1.1.1.1.1.1.0.1.1.1.0, (m.1.1.1.1.1.1.1.1.1.0.1.1.1.1.0, (m.1.1.1.1.1.1.1.1.1.0.1.1.1.1.1.0, (x, m.1.1.1.1.1.1.1.1.1.0.1.1.1.1.1.1.1))))))), m.1.1.1.1.1.1.1.1.1.1))))))))))

-- map<uint32, string> remarks = 76;
abbrev pub remarks : {Place : Type 0} → Meaning Place → List (ℕ × List ℕ)
remarks m = m.1.1.1.1.1.1.1.1.1.0.1.1.1.1.1.1.1

abbrev pub with_remarks : {Place : Type 0} → List (ℕ × List ℕ) → Meaning Place → Meaning Place
with_remarks x m = (m.0, (m.1.0, (m.1.1.0, (m.1.1.1.0, (m.1.1.1.1.0, (m.1.1.1.1.1.0, (m.1.1.1.1.1.1.0, (m.1.1.1.1.1.1.1.0, (m.1.1.1.1.1.1.1.1.0, ((m.1.1.1.1.1.1.1.1.1.0.0, (m.1.1.1.1.1.1.1.1.1.0.1.0, (m.1.1.1.1.1.1.1.1.1.0.1.1.0, (m.1.1.1.1.1.1.1.1.1.0.1.1.1.0, (m.1.1.1.1.1.1.1.1.1.0.1.1.1.1.0, (m.1.1.1.1.1.1.1.1.1.0.1.1.1.1.1.0, (m.1.1.1.1.1.1.1.1.1.0.1.1.1.1.1.1.0, x))))))), m.1.1.1.1.1.1.1.1.1.1))))))))))

-- the fields that aren't declared
abbrev pub unknown_fields : {Place : Type 0} → Meaning Place → List (ℕ × FieldData)
unknown_fields m = m.1.1.1.1.1.1.1.1.1.1

abbrev pub with_unknown_fields : {Place : Type 0} → List (ℕ × FieldData) → Meaning Place → Meaning Place
with_unknown_fields x m = (m.0, (m.1.0, (m.1.1.0, (m.1.1.1.0, (m.1.1.1.1.0, (m.1.1.1.1.1.0, (m.1.1.1.1.1.1.0, (m.1.1.1.1.1.1.1.0, (m.1.1.1.1.1.1.1.1.0, (m.1.1.1.1.1.1.1.1.1.0, x))))))))))
