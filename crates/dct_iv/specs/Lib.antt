pub mod DctIv
