pub mod JobFits
