pub mod FftTables
